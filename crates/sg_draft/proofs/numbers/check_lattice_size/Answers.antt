use Rattle.std.proofs.Common.{rules}
use Rattle.sg_draft.proofs.numbers.check_lattice_size.Goals as goal

pub returns-in_default-at_least-clause-refused : goal.returns-in_default-at_least-clause-refused
returns-in_default-at_least-clause-refused c = search rules

pub overflow_cast-result-2 : goal.overflow_cast-result-2
overflow_cast-result-2 c = search rules

pub returns-clause-passes : goal.returns-clause-passes
returns-clause-passes c = search rules

pub returns-clause-sound : goal.returns-clause-sound
returns-clause-sound c = search rules
