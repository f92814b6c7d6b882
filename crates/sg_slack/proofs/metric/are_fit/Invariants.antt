-- `are_fit`: the rows so far are fit.
use Rattle.std.proofs.Common.{ℕ, ◌<◌}
use Rattle.sg_slack.specs.Fit.{IsFitRow}
use Rattle.sg_slack.proofs.metric.are_fit.Given as goal

abbrev pub invariant-loop-u : goal.invariant-loop-u
invariant-loop-u l = (u : ℕ) → u < l.u → IsFitRow l.costs u
