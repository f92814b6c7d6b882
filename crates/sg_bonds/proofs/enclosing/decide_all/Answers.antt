use Rattle.sg_bonds.proofs.Common.{arith, common_steps}
use Rattle.sg_bonds.proofs.enclosing.decide_all.Goals as goal

pub returns-then-are_decided-clause-narrows : goal.returns-then-are_decided-clause-narrows
returns-then-are_decided-clause-narrows c = grind (arith, common_steps)
