use Rattle.std.proofs.Common.{rules}
use Rattle.sg_base.proofs.rising.is_rising.Goals as goal

pub loop-i-preserved : goal.loop-i-preserved
loop-i-preserved c = search rules
