use Rattle.std.proofs.Common.{rules}
use Rattle.sg_tjoin.proofs.joiner.least_weight_by.Goals as goal

pub returns-in-Some-clause-weight : goal.returns-in-Some-clause-weight
returns-in-Some-clause-weight c = search rules
