use Rattle.std.proofs.Common.{rules}
use Rattle.sg_tjoin.proofs.nested.accepted.Goals as goal

pub weight-weight-requires-clause-rising : goal.weight-weight-requires-clause-rising
weight-weight-requires-clause-rising c = (c.in_ok-proves.ensures.least c.if-not-branch.false).join.rising

pub weight-weight-requires-clause-below : goal.weight-weight-requires-clause-below
weight-weight-requires-clause-below c = (c.in_ok-proves.ensures.least c.if-not-branch.false).join.below

pub returns-clause-least : goal.returns-clause-least
returns-clause-least c = search rules

pub returns-clause-proves : goal.returns-clause-proves
returns-clause-proves c = search rules
