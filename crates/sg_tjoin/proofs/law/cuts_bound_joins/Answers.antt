use Rattle.std.proofs.Common.{arith}
use Rattle.sg_graph.proofs.Joins.{cuts_bound_join, least_by_cuts}
use Rattle.sg_tjoin.proofs.law.cuts_bound_joins.Goals as goal

pub returns-clause-bound : goal.returns-clause-bound
returns-clause-bound c = λ g terminals edges cuts web are join packed. cuts_bound_join g terminals are web.joined edges cuts join packed

pub returns-clause-least : goal.returns-clause-least
returns-clause-least c = λ g terminals edges cuts web are join packed tight. least_by_cuts g terminals are web.joined edges cuts join packed
    (omega (arith, tight))
