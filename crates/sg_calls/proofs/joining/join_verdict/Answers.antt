use Rattle.std.proofs.Common.{rules}
use Rattle.sg_calls.proofs.joining.join_verdict.Goals as goal

pub returns-clause-gives : goal.returns-clause-gives
returns-clause-gives c = search rules
