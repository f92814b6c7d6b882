-- `mark_of`: the top is none of the tree edges so far.
use Rattle.std.proofs.Common.{◌≢◌, ℕ, ◌<◌}
use Rattle.sg_match.proofs.leaves.mark_of.Given as goal
use Rattle.sg_match.specs.Tree.{tree_edge_at}

abbrev pub invariant-loop-tree_edge : goal.invariant-loop-tree_edge
invariant-loop-tree_edge l = (k : ℕ) → k < l.tree_edge-index → ((tree_edge_at l.edges k).outer ≢ l.top) × ((tree_edge_at l.edges k).inner ≢ l.top)
