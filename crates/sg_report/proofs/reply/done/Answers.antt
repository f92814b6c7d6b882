use Rattle.std.proofs.Common.{rules}
use Rattle.sg_report.proofs.reply.done.Goals as goal

pub returns-clause-status : goal.returns-clause-status
returns-clause-status c = search rules
