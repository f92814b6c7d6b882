-- `are_direct`: the leaves so far have no shorter ways.
use Rattle.std.proofs.Common.{ℕ, ◌<◌}
use Rattle.sg_slack.specs.Fit.{IsDirect}
use Rattle.sg_slack.proofs.metric.are_direct.Given as goal

abbrev pub invariant-loop-u : goal.invariant-loop-u
invariant-loop-u l = (u : ℕ) → u < l.u → IsDirect l.costs u
