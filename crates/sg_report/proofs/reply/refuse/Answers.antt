use Rattle.std.proofs.Common.{rules}
use Rattle.sg_report.proofs.reply.refuse.Goals as goal

pub returns-clause-refused : goal.returns-clause-refused
returns-clause-refused c = search rules
