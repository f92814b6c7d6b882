-- `is_direct`: the leaves so far make nothing nearer.
use Rattle.std.proofs.Common.{ℕ, ◌<◌}
use Rattle.sg_slack.specs.Fit.{IsNoShortcut}
use Rattle.sg_slack.proofs.metric.is_direct.Given as goal

abbrev pub invariant-loop-v : goal.invariant-loop-v
invariant-loop-v l = (v : ℕ) → v < l.v → IsNoShortcut l.costs l.u v
