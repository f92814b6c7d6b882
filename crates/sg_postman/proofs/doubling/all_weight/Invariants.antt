-- The weight of the edges before the next.
use Rattle.std.proofs.Common.{◌≡◌, sum_by, take}
use Rattle.sg_graph.specs.Web.{weight_at}
use Rattle.sg_postman.proofs.doubling.all_weight.Given as goal

abbrev pub invariant-loop-edge : goal.invariant-loop-edge
invariant-loop-edge l = l.sum ≡ sum_by weight_at (take l.edge-index l.edges)
