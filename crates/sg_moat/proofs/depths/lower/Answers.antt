use Rattle.std.proofs.Common.{rules}
use Rattle.sg_moat.proofs.depths.lower.Goals as goal

pub loop-x-preserved : goal.loop-x-preserved
loop-x-preserved c = search rules
