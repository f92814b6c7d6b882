-- The ends on the edges so far, at most two each.
use Rattle.std.proofs.Common.{◌≡◌, ◌*◌, ◌≤◌, sum_by, take}
use Rattle.sg_graph.specs.Web.{ends_on}
use Rattle.sg_graph.proofs.web.Web.degree.Given as goal

abbrev pub invariant-loop-edge : goal.invariant-loop-edge
invariant-loop-edge l = (l.degree ≡ sum_by (ends_on l.node) (take l.edge-index l.edge-items)) × (l.degree ≤ 2 * l.edge-index)
