-- `is_fit_row`: the costs so far are fit.
use Rattle.std.proofs.Common.{ℕ, ◌<◌}
use Rattle.sg_slack.specs.Fit.{IsFitCost}
use Rattle.sg_slack.proofs.metric.is_fit_row.Given as goal

abbrev pub invariant-loop-v : goal.invariant-loop-v
invariant-loop-v l = (v : ℕ) → v < l.v → IsFitCost l.costs l.u v
