use Rattle.std.proofs.Common.{rules}
use Rattle.sg_cli.proofs.check.verdict_status.Goals as goal

pub returns-in_default : goal.returns-in_default
returns-in_default c = search rules
