use Rattle.std.proofs.Common.{◌<◌}
use Rattle.sg_slack.specs.Slack.{Least, IsOuterFree}
use Rattle.sg_slack.proofs.least_outer_free.Given as goal

-- the least of the rows so far
abbrev pub invariant-loop-u : goal.invariant-loop-u
invariant-loop-u l = Least l.costs l.total (λ a b. (a < l.u) × IsOuterFree l.costs l.mark a b) l.best
