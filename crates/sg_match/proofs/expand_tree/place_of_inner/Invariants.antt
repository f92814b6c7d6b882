-- `place_of_inner`: no tree edge so far has the node.
use Rattle.std.proofs.Common.{◌≢◌, ℕ, ◌<◌}
use Rattle.sg_match.specs.Tree.{tree_edge_at}
use Rattle.sg_match.proofs.expand_tree.place_of_inner.Given as goal

abbrev pub invariant-loop-i : goal.invariant-loop-i
invariant-loop-i l = (k : ℕ) → k < l.i → (tree_edge_at l.edges k).inner ≢ l.node
