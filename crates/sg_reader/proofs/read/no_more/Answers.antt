use Rattle.std.proofs.Common.{rules}
use Rattle.sg_reader.proofs.RestLaws.{failed, rest-none}
use Rattle.sg_reader.proofs.read.no_more.Goals as goal

pub returns-in_err-next-clause-fault : goal.returns-in_err-next-clause-fault
returns-in_err-next-clause-fault c = failed _ _ c.from_residual.ensures.1 (rest-none _ _ c.in_err-next.ensures.failed)

pub returns-clause-none : goal.returns-clause-none
returns-clause-none c = search rules

pub returns-clause-left : goal.returns-clause-left
returns-clause-left c = search rules
