use Rattle.sg_postman.proofs.ClosedWalks.{closed_walk_weighs}
use Rattle.sg_postman.proofs.law.closed_walks_weigh.Goals as goal

pub returns : goal.returns
returns c = λ g join walk least closed. closed_walk_weighs g walk closed join least
