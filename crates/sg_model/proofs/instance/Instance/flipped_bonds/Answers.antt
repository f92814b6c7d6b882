use Rattle.std.proofs.Common.{arith}
use Rattle.std.proofs.lemmas.List.{get_or_read}
use Rattle.sg_model.proofs.Recoupled.{flip_step}
use Rattle.sg_model.proofs.instance.Instance.flipped_bonds.Goals as goal

pub loop-k-preserved : goal.loop-k-preserved
loop-k-preserved c = grind (arith, get_or_read, flip_step)

pub returns-clause-bonds : goal.returns-clause-bonds
returns-clause-bonds c = grind arith
