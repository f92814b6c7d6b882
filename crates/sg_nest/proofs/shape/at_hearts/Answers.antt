use Rattle.std.proofs.Common.{arith}
use Rattle.std.proofs.lemmas.Grind.{elements}
use Rattle.sg_nest.proofs.shape.at_hearts.Goals as goal

pub returns : goal.returns
returns c = grind (arith, elements)
