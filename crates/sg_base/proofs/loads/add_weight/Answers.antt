use Rattle.std.proofs.Common.{arith, length-set}
use Rattle.sg_base.proofs.AddedLoads.{added_more}
use Rattle.sg_base.proofs.loads.add_weight.Goals as goal

pub loop-k-preserved : goal.loop-k-preserved
loop-k-preserved c = grind (arith, added_more, length-set)
