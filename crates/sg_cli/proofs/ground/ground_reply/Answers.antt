use Rattle.std.proofs.Common.{rules}
use Rattle.sg_cli.proofs.ground.ground_reply.Goals as goal

pub returns-clause-served : goal.returns-clause-served
returns-clause-served c = search rules
