use Rattle.std.proofs.Common.{rules}
use Rattle.sg_slack.proofs.near.risen.Goals as goal

pub returns-else-none-clause-some : goal.returns-else-none-clause-some
returns-else-none-clause-some c = search rules
