use Rattle.std.proofs.Common.{arith}
use Rattle.std.proofs.lemmas.Grind.{common_steps}
use Rattle.sg_report.proofs.report.spin_values.Goals as goal

pub loop-spin-preserved : goal.loop-spin-preserved
loop-spin-preserved c = grind (arith, common_steps)
