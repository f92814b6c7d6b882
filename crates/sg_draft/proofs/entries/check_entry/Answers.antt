use Rattle.std.proofs.Common.{rules}
use Rattle.sg_draft.proofs.entries.check_entry.Goals as goal

pub returns-in-Some-clause-refused : goal.returns-in-Some-clause-refused
returns-in-Some-clause-refused c = search rules
