use Rattle.std.proofs.Common.{arith, length-set}
use Rattle.sg_model.proofs.Codes.{written-more}
use Rattle.sg_model.proofs.spins.write_code.Goals as goal

pub loop-i-preserved : goal.loop-i-preserved
loop-i-preserved c = grind (arith, length-set, written-more)
