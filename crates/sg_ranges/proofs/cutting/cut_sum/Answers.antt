use Rattle.std.proofs.Common.{arith}
use Rattle.std.proofs.lemmas.Grind.{common_steps}
use Rattle.sg_ranges.proofs.cutting.cut_sum.Goals as goal

pub loop-bond-preserved : goal.loop-bond-preserved
loop-bond-preserved c = grind (arith, common_steps)

pub returns-clause-value : goal.returns-clause-value
returns-clause-value c = grind (arith, common_steps)
