use Rattle.std.proofs.Common.{rules}
use Rattle.sg_draft.proofs.numbers.check_spins.Goals as goal

pub returns-then-n-from-clause-refused : goal.returns-then-n-from-clause-refused
returns-then-n-from-clause-refused c = search rules
