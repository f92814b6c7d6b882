-- `fill`: the leaves so far.
use Rattle.std.proofs.Common.{◌≡◌, ℕ, ◌-◌, ◌<◌, pos}
use Rattle.sg_slack.specs.Slack.{mark_at, total_at}
use Rattle.sg_slack.specs.declared.Mark.TheVariants.{Outer}
use Rattle.sg_web_rows.proofs.near.fill.Given as goal

abbrev pub invariant-loop-v : goal.invariant-loop-v
invariant-loop-v l = record {
  totals : (w : ℕ) → w < l.v → total_at l.totals w ≡ pos (l.place - w);
  marks : (w : ℕ) → w < l.v → (mark_at l.marks w ≡ Outer → w < l.place) × (w < l.place → mark_at l.marks w ≡ Outer);
}
