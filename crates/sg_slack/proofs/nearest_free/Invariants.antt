use Rattle.std.proofs.Common.{◌<◌}
use Rattle.sg_slack.specs.Slack.{Least}
use Rattle.sg_slack.specs.Scan.{IsOuterFreeOf}
use Rattle.sg_slack.proofs.nearest_free.Given as goal

-- the least of the leaves so far
abbrev pub invariant-loop-v : goal.invariant-loop-v
invariant-loop-v l = Least l.costs l.total (λ a b. (b < l.v) × IsOuterFreeOf l.costs l.mark l.u a b) l.best
