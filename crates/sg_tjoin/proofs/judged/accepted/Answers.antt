use Rattle.std.proofs.Common.{rules}
use Rattle.sg_tjoin.proofs.judged.accepted.Goals as goal

pub weight-weight-requires-clause-rising : goal.weight-weight-requires-clause-rising
weight-weight-requires-clause-rising c = (c.in_ok-proves_least.ensures.proves c.if-not-branch.false).join.rising

pub weight-weight-requires-clause-below : goal.weight-weight-requires-clause-below
weight-weight-requires-clause-below c = (c.in_ok-proves_least.ensures.proves c.if-not-branch.false).join.below

pub returns-clause-least : goal.returns-clause-least
returns-clause-least c = search rules

pub returns-clause-packs : goal.returns-clause-packs
returns-clause-packs c = search rules

pub returns-clause-tight : goal.returns-clause-tight
returns-clause-tight c = search rules
