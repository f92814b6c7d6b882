use Rattle.sg_bonds.proofs.Common.{arith, common_steps}
use Rattle.sg_bonds.proofs.enclosing.weaken_once.Goals as goal

pub note_other-requires-clause-other : goal.note_other-requires-clause-other
note_other-requires-clause-other c = grind (arith, common_steps)

pub raise-requires-clause-least : goal.raise-requires-clause-least
raise-requires-clause-least c = grind (arith, common_steps)

pub returns-in_err-ask-clause-narrows : goal.returns-in_err-ask-clause-narrows
returns-in_err-ask-clause-narrows c = grind (arith, common_steps)
