use Rattle.sg_bonds.proofs.Common.{arith, common_steps}
use Rattle.sg_bonds.proofs.enclosing.note_other.Goals as goal

pub note_parts-requires-clause-ground_state : goal.note_parts-requires-clause-ground_state
note_parts-requires-clause-ground_state c = grind (arith, common_steps)

pub parts_between-requires-clause-first : goal.parts_between-requires-clause-first
parts_between-requires-clause-first c = grind (arith, common_steps)
