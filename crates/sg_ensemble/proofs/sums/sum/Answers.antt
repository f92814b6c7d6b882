use Rattle.std.proofs.Common.{arith}
use Rattle.std.proofs.lemmas.Grind.{common_steps}
use Rattle.sg_ensemble.proofs.sums.sum.Goals as goal

pub loop-wall-preserved : goal.loop-wall-preserved
loop-wall-preserved c = grind (arith, common_steps)
