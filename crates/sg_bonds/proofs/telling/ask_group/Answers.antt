use Rattle.sg_bonds.proofs.Common.{arith, common_steps}
use Rattle.sg_bonds.proofs.telling.ask_group.Goals as goal

pub returns-in_err-amounts-clause-told : goal.returns-in_err-amounts-clause-told
returns-in_err-amounts-clause-told c = grind (arith, common_steps)
