use Rattle.std.proofs.Common.{arith}
use Rattle.std.proofs.lemmas.Grind.{common_steps}
use Rattle.sg_match.proofs.runs.leaf_names.Goals as goal

pub loop-leaf-preserved : goal.loop-leaf-preserved
loop-leaf-preserved c = grind (arith, common_steps)

pub returns-clause-items : goal.returns-clause-items
returns-clause-items c = grind (arith, common_steps)
