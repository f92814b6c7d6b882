-- Edges of the web so far, each of weight 2^20 at most.
use Rattle.std.proofs.Common.{◌≡◌, ◌*◌, ◌≤◌, length, sum_by, All}
use Rattle.sg_graph.specs.Web.{IsEdge, weight_at}
use Rattle.sg_trials.proofs.graphs.web.Given as goal

abbrev pub invariant-loop-a : goal.invariant-loop-a
invariant-loop-a g l = record {
  count : length l.edges ≡ l.a-index;
  joined : All (IsEdge l.nodes) l.edges;
  light : sum_by weight_at l.edges ≤ 1048576 * l.a-index;
}
