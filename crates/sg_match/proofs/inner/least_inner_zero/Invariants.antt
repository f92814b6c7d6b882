-- `least_inner_zero`: the least inner blossom of dual 0 of the tree edges so far.
use Rattle.sg_match.proofs.inner.least_inner_zero.Given as goal
use Rattle.sg_match.proofs.InnerLemmas.{IsBest}

abbrev pub invariant-loop-tree_edge : goal.invariant-loop-tree_edge
invariant-loop-tree_edge l = IsBest l.arena l.edges l.tree_edge-index l.least
