use Rattle.std.proofs.Common.{rules}
use Rattle.sg_calls.proofs.bounded.is_bond.Goals as goal

pub returns : goal.returns
returns c = search rules
