use Rattle.sg_bonds.proofs.Common.{arith, common_steps}
use Rattle.sg_bonds.proofs.telling.marks_of.Goals as goal

pub explore-requires-clause-told : goal.explore-requires-clause-told
explore-requires-clause-told c = grind (arith, common_steps)

pub tell-requires-clause-told : goal.tell-requires-clause-told
tell-requires-clause-told c = grind (arith, common_steps)

pub gather-requires-clause-told : goal.gather-requires-clause-told
gather-requires-clause-told c = grind (arith, common_steps)
