use Rattle.sg_bonds.proofs.Common.{arith, elements}
use Rattle.sg_bonds.proofs.forcing.other_product.Goals as goal

pub returns-then-at-clause-other : goal.returns-then-at-clause-other
returns-then-at-clause-other c = grind (arith, elements)

pub returns-else-at-clause-other : goal.returns-else-at-clause-other
returns-else-at-clause-other c = grind (arith, elements)
