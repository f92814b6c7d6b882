use Rattle.std.proofs.Common.{rules}
use Rattle.sg_dist.proofs.walk.turned_round.Goals as goal

pub returns : goal.returns
returns c = search rules
