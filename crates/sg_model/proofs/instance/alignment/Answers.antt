use Rattle.std.proofs.Common.{arith}
use Rattle.std.proofs.lemmas.Grind.{common_steps}
use Rattle.std.proofs.lemmas.Int.{ints}
use Rattle.sg_model.proofs.instance.alignment.Goals as goal

pub loop-bond-preserved : goal.loop-bond-preserved
loop-bond-preserved c = record { sum = grind (arith, common_steps); size = omega (arith, ints) }
