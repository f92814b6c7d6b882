use Rattle.std.proofs.Common.{ℕ, ◌<◌}
use Rattle.sg_slack.specs.Table.{cost_of}
use Rattle.sg_slack.specs.Small.{IsSmall}
use Rattle.sg_web_rows.proofs.slacks.is_row_small.Given as goal

-- the costs so far are small
abbrev pub invariant-loop-v : goal.invariant-loop-v
invariant-loop-v l = (v : ℕ) → v < l.v → IsSmall (cost_of l.costs l.u v)
