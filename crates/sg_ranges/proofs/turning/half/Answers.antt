use Rattle.std.proofs.Common.{rules}
use Rattle.sg_ranges.proofs.turning.half.Goals as goal

pub returns-clause-twice : goal.returns-clause-twice
returns-clause-twice c = search rules

pub returns-clause-size : goal.returns-clause-size
returns-clause-size c = search rules
