use Rattle.std.proofs.Common.{arith}
use Rattle.std.proofs.lemmas.Grind.{elements}
use Rattle.sg_base.proofs.numbers.Numbers.at.Goals as goal

pub returns : goal.returns
returns g c = grind (arith, elements)
