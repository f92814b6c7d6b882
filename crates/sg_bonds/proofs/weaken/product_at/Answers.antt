use Rattle.sg_bonds.proofs.Common.{arith, elements}
use Rattle.sg_bonds.proofs.weaken.product_at.Goals as goal

pub returns-then-at-clause-value : goal.returns-then-at-clause-value
returns-then-at-clause-value c = grind (arith, elements)

pub returns-else-at-clause-value : goal.returns-else-at-clause-value
returns-else-at-clause-value c = grind (arith, elements)
