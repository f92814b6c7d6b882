use Rattle.sg_bonds.proofs.Common.{arith, common_steps}
use Rattle.sg_bonds.proofs.weaken.weaker.Goals as goal

pub returns-then-product-eq1 : goal.returns-then-product-eq1
returns-then-product-eq1 c = grind (arith, common_steps)

pub returns-else-product-eq1 : goal.returns-else-product-eq1
returns-else-product-eq1 c = grind (arith, common_steps)
