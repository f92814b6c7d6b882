-- `least_dual`: the least dual of the tree edges so far.
use Rattle.sg_match.proofs.inner.least_dual.Given as goal
use Rattle.sg_match.proofs.InnerLemmas.{IsLeastDual}

abbrev pub invariant-loop-tree_edge : goal.invariant-loop-tree_edge
invariant-loop-tree_edge l = IsLeastDual l.arena l.edges l.tree_edge-index l.most l.least
