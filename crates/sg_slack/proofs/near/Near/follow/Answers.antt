-- `follow`: the members have grown to the totals that are given, or none are left.
use Rattle.std.proofs.Common.{arith, ◌≡◌, ℤ, Some, None, length, subst, rules, to_z, of_z, ◌∙◌}
use Rattle.std.specs.Int.{w128}
use Rattle.std.proofs.lemmas.Int.{to_z-of_z}
use Rattle.sg_slack.proofs.NearLemmas.{Follows, Follows-risen, IsNear-risen, IsRise-same, none-grown}
use Rattle.sg_slack.specs.Kept.{IsRise, members_of}
use Rattle.sg_slack.specs.Members.{HaveGrown, Known, grown}
use Rattle.sg_slack.proofs.near.Near.follow.Goals as goal

risen : (c : goal.After-self-1) → IsRise c.self.inside.members.items c.self.inside.rise c.args.total.now c.args.mark.now (Some c.in-Some.rise)
risen c = grind (arith, IsRise-same, to_z-of_z, c.deref.ensures.value, c.in-Some.ensures)

count : (c : goal.After-self-1) → length c.args.mark.now ≡ c.self.inside.costs.size
count c = grind (arith, c.self.view_is, c.requires.marks)

same : (c : goal.After-self-1) → to_z w128 (of_z w128 c.in-Some.rise) ≡ c.in-Some.rise
same c = to_z-of_z w128 c.in-Some.rise (search rules)

pub invariant_of-self : goal.invariant_of-self
invariant_of-self c = grind (arith, same, IsNear-risen, count, risen, c, c.self.invariant.near, c.self.invariant.room)

follows : (c : goal.After-self-1) → Follows c.args.self.now.members c.args.total.now c.args.mark.now
    (members_of (to_z w128 (of_z w128 c.in-Some.rise)) c.self.inside.members.items)
follows c =
    let e = c.self.inside in
    subst (λ (s : Known). Follows s.members c.args.total.now c.args.mark.now (members_of (to_z w128 (of_z w128 c.in-Some.rise)) e.members.items))
    c.self.view_is
    (rw (same c) (Follows-risen c.self.invariant.near c.args.total.now c.args.mark.now
    (count c) c.in-Some.rise (risen c).0))

pub returns-in-Some-clause-outer : goal.returns-in-Some-clause-outer
returns-in-Some-clause-outer c = (follows c).outer

pub returns-in-Some-clause-agree : goal.returns-in-Some-clause-agree
returns-in-Some-clause-agree c = (follows c).agree

pub returns-in-Some-clause-kept : goal.returns-in-Some-clause-kept
returns-in-Some-clause-kept c = (follows c).kept

pub returns-in-Some-clause-cleared : goal.returns-in-Some-clause-cleared
returns-in-Some-clause-cleared c = (follows c).cleared

pub returns-in-None-clause-kept : goal.returns-in-None-clause-kept
returns-in-None-clause-kept c =
    let e = c.self.inside in
    let none =
    IsRise-same c.deref.result.now e.members.items _ e.rise c.args.total.now c.args.mark.now None
    c.deref.ensures.value (to_z-of_z w128 e.rise (search rules)) c.in-None.ensures in
    subst (λ (s : Known). (delta : ℤ) → HaveGrown s.members c.args.total.now c.args.mark.now delta → c.clear.new.self.members ≡ grown delta s.members)
    c.self.view_is (λ delta all. c.clear.ensures.members ∙ none-grown e.rise e.members.items c.args.total.now c.args.mark.now none delta all)
