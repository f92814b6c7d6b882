use Rattle.std.proofs.Common.{arith}
use Rattle.std.proofs.lemmas.Grind.{common_steps}
use Rattle.sg_match.proofs.leaves.list_tree.Goals as goal

pub push_reserved-requires-in-loop-tree_edge : goal.push_reserved-requires-in-loop-tree_edge
push_reserved-requires-in-loop-tree_edge c = grind (arith, common_steps)

pub push_reserved-requires-in-loop-tree_edge-2 : goal.push_reserved-requires-in-loop-tree_edge-2
push_reserved-requires-in-loop-tree_edge-2 c = grind (arith, common_steps)

pub loop-tree_edge-preserved : goal.loop-tree_edge-preserved
loop-tree_edge-preserved c = grind (arith, common_steps)

pub returns-clause-outer : goal.returns-clause-outer
returns-clause-outer c = grind (arith, common_steps)

pub returns-clause-inner : goal.returns-clause-inner
returns-clause-inner c = grind (arith, common_steps)
