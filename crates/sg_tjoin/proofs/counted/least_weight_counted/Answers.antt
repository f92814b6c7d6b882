use Rattle.std.proofs.Common.{rules}
use Rattle.sg_tjoin.proofs.counted.least_weight_counted.Goals as goal

pub returns-clause-accounted : goal.returns-clause-accounted
returns-clause-accounted c = search rules
