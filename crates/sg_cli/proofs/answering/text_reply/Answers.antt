use Rattle.std.proofs.Common.{rules}
use Rattle.sg_cli.proofs.answering.text_reply.Goals as goal

pub returns-in-Study-clause-served : goal.returns-in-Study-clause-served
returns-in-Study-clause-served c = search rules
