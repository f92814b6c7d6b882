use Rattle.sg_bonds.proofs.Common.{arith, common_steps}
use Rattle.sg_bonds.proofs.weaken.fits.Goals as goal

pub overflow_add-result : goal.overflow_add-result
overflow_add-result c = grind (arith, common_steps)

pub returns : goal.returns
returns c = grind (arith, common_steps)
