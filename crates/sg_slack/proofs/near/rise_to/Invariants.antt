-- `rise_to`: the members so far have risen by it.
use Rattle.std.proofs.Common.{ℕ, ◌<◌, FitsSigned, w64}
use Rattle.sg_slack.proofs.near.rise_to.Given as goal
use Rattle.sg_slack.specs.Kept.{HasRisen, kept_at}
use Rattle.sg_slack.specs.Slack.{total_at}

abbrev pub invariant-loop-member : goal.invariant-loop-member
invariant-loop-member l = (i : ℕ) → i < l.member-index → FitsSigned w64 (total_at l.total (kept_at l.members i).leaf) ×
    HasRisen l.total l.mark l.rise (kept_at l.members i)
