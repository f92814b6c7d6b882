use Rattle.sg_bonds.proofs.Common.{arith, elements}
use Rattle.sg_bonds.proofs.flipping.gain_at.Goals as goal

pub returns-then-at : goal.returns-then-at
returns-then-at c = grind (arith, elements)

pub returns-else-at : goal.returns-else-at
returns-else-at c = grind (arith, elements)
