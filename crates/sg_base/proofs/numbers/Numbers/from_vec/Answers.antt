use Rattle.std.proofs.Common.{rules}
use Rattle.sg_base.proofs.numbers.Numbers.from_vec.Goals as goal

pub returns : goal.returns
returns g c = search rules
