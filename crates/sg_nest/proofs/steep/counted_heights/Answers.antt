use Rattle.std.proofs.Common.{rules}
use Rattle.sg_nest.proofs.steep.counted_heights.Goals as goal

pub returns : goal.returns
returns c = search rules
