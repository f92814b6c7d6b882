use Rattle.std.proofs.Common.{arith}
use Rattle.std.proofs.lemmas.Grind.{common_steps}
use Rattle.sg_model.proofs.instance.Instance.on_seam.Goals as goal

pub loop-bond-init : goal.loop-bond-init
loop-bond-init c = grind (arith, common_steps)

pub loop-bond-preserved : goal.loop-bond-preserved
loop-bond-preserved c = grind (arith, common_steps)

pub returns-clause-marks : goal.returns-clause-marks
returns-clause-marks c = grind (arith, common_steps)
