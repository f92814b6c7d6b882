use Rattle.sg_bonds.proofs.Common.{arith, common_steps}
use Rattle.sg_bonds.proofs.amounts.lowered_amount.Goals as goal

pub overflow_cast-result : goal.overflow_cast-result
overflow_cast-result c = grind (arith, common_steps)
