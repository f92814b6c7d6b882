use Rattle.std.proofs.Common.{◌<◌}
use Rattle.sg_slack.specs.Slack.{Least, IsOuterOuter}
use Rattle.sg_slack.proofs.least_outer_outer.Given as goal

-- the least of the rows so far
abbrev pub invariant-loop-u : goal.invariant-loop-u
invariant-loop-u l = Least l.costs l.total (λ a b. (a < l.u) × IsOuterOuter l.costs l.top l.mark a b) l.best
