use Rattle.std.proofs.Common.{ℕ, ◌<◌}
use Rattle.sg_slack.specs.Table.{cost_of}
use Rattle.sg_slack.specs.Slack.{total_at}
use Rattle.sg_slack.specs.Small.{IsSmall}
use Rattle.sg_web_rows.proofs.slacks.are_small.Given as goal

-- the totals so far and the costs of their rows are small
abbrev pub invariant-loop-u : goal.invariant-loop-u
invariant-loop-u l = record {
  totals : (u : ℕ) → u < l.u → IsSmall (total_at l.total u);
  costs : (u v : ℕ) → u < l.u → v < l.costs.size → IsSmall (cost_of l.costs u v);
}
