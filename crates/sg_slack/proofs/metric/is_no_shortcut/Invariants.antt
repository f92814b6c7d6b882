-- `is_no_shortcut`: the leaves so far are no nearer by way of the other.
use Rattle.std.proofs.Common.{ℕ, ◌+◌, ◌<◌, ◌≤◌}
use Rattle.sg_slack.specs.Metric.{cost}
use Rattle.sg_slack.proofs.metric.is_no_shortcut.Given as goal

abbrev pub invariant-loop-w : goal.invariant-loop-w
invariant-loop-w l = (w : ℕ) → w < l.w → cost l.costs l.u w ≤ cost l.costs l.u l.v + cost l.costs l.v w
