use Rattle.std.proofs.Common.{◌≡◌, ◌<◌, ℕ, length}
use Rattle.sg_graph.specs.Incidence.{list_at}
use Rattle.sg_graph.specs.Join.{IsLeastJoin}
use Rattle.sg_calls.specs.Joins.{join_weights}
use Rattle.sg_calls.proofs.joining.least_joins.Given as goal

-- a minimum T-join of each list so far, with its weight
abbrev pub invariant-loop-i : goal.invariant-loop-i
invariant-loop-i l = record {
  same : l.joiner.value ≡ l.web;
  count : length l.found.value.joins ≡ l.i;
  each : (j : ℕ) → j < l.i → IsLeastJoin l.web (list_at l.lists j) (list_at l.found.value.joins j);
  weights : l.found.value.weights ≡ join_weights l.web l.found.value.joins;
}
