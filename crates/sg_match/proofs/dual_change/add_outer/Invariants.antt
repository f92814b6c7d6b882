-- `add_outer`: the outer leaves so far are members.
use Rattle.std.proofs.Common.{◌≡◌, ℕ, ◌<◌}
use Rattle.sg_slack.specs.Members.{Agree, AreMarked, IsMember}
use Rattle.sg_slack.specs.Slack.{mark_at}
use Rattle.sg_slack.specs.declared.Mark.TheVariants.{Outer}
use Rattle.sg_match.proofs.dual_change.add_outer.Given as goal

abbrev pub invariant-loop-leaf : goal.invariant-loop-leaf
invariant-loop-leaf l = record {
  table : l.near.table ≡ l.fn.near.table;
  outer : AreMarked l.near.members l.marks;
  agree : Agree l.near.members l.totals;
  every : (u : ℕ) → u < l.leaf → mark_at l.marks u ≡ Outer → IsMember l.near.members u;
}
