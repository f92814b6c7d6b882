-- `nearest_kept`: the least of the leaves so far.
use Rattle.std.proofs.Common.{◌<◌}
use Rattle.sg_slack.specs.Scan.{IsNearestFree}
use Rattle.sg_slack.specs.Slack.{Least}
use Rattle.sg_slack.proofs.near.nearest_kept.Given as goal

abbrev pub invariant-loop-v : goal.invariant-loop-v
invariant-loop-v l = Least l.costs l.total (λ a b. (b < l.v) × IsNearestFree l.costs l.nearest l.mark a b) l.best
