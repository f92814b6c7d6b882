use Rattle.sg_bonds.proofs.Common.{arith, common_steps}
use Rattle.sg_bonds.proofs.telling.compare.Goals as goal

pub free-requires-clause-assignment : goal.free-requires-clause-assignment
free-requires-clause-assignment c = grind (arith, common_steps)

pub free-requires-clause-ground_state : goal.free-requires-clause-ground_state
free-requires-clause-ground_state c = grind (arith, common_steps)

pub free-requires-clause-level : goal.free-requires-clause-level
free-requires-clause-level c = grind (arith, common_steps)
