use Rattle.std.proofs.Common.{rules}
use Rattle.sg_report.proofs.reply.refuse_fault.Goals as goal

pub returns-in-NoMemory-clause-named : goal.returns-in-NoMemory-clause-named
returns-in-NoMemory-clause-named c = search rules
