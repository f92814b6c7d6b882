use Rattle.sg_bonds.proofs.Common.{arith, elements}
use Rattle.sg_bonds.proofs.bounds.is_turned.Goals as goal

pub returns : goal.returns
returns c = grind (arith, elements)
