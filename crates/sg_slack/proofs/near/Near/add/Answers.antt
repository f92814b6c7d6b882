-- `add`: the new member takes the leaves to which it is nearer.
use Rattle.std.proofs.Common.{◌≡◌, ℕ, ◌<◌, ◌++◌, ◌∷◌, [], length, ◌-ℤ◌, false, true, arith, subst, sym, ap, ◌∙◌, rules, w64}
use Rattle.std.specs.Int.{w128}
use Rattle.std.specs.Vec.{with_items}
use Rattle.std.proofs.lemmas.Int.{ints, to_z-of_z}
use Rattle.std.proofs.lemmas.List.{with_items_is}
use Rattle.sg_slack.proofs.NearLemmas.{IsNear-added, members-more, rise-high, room-more}
use Rattle.sg_slack.specs.Kept.{IsTakenAt, members_of, nearest_at}
use Rattle.sg_slack.specs.Members.{IsMember, Known}
use Rattle.sg_slack.specs.declared.member.Kept.{Kept}
use Rattle.sg_slack.proofs.near.Near.add.Goals as goal
use Rattle.sg_slack.proofs.near.Near.add.Goals.{After-self, After-push_reserved}

low : (c : After-self) → c.args.leaf < c.self.inside.costs.size
low c = subst (λ (s : Known). c.args.leaf < s.table.size) (sym c.self.view_is) c.requires.leaf

fresh : (c : After-self) → IsMember (members_of c.self.inside.rise c.self.inside.members.items) c.args.leaf → ⊥
fresh c = grind (arith, c.self.view_is, c.requires.fresh)

pub kept_of-member-requires-clause-high : goal.kept_of-member-requires-clause-high
kept_of-member-requires-clause-high c = omega (arith, ints, rise-high c.self.invariant.near, to_z-of_z w128 c.self.inside.rise (search rules))

pub push_reserved-requires : goal.push_reserved-requires
push_reserved-requires c =
    let e = c.self.inside in
    let at = (goal.at.push_reserved-requires c).After-self in
    let room = room-more c.self.invariant.near c.args.leaf c.args.total (low at) (fresh
    at) (search rules) in
    omega (arith, room, c.self.invariant.room, e.members.ok)

-- what is kept of the new member
abbrev kept : After-push_reserved → Kept
kept c = record { leaf = c.args.leaf; base = c.args.total -ℤ c.self.inside.rise }

kept_is : (c : After-push_reserved) → c.kept_of-member.result ≡ kept c
kept_is c = rw (← to_z-of_z w64 c.args.total (search rules), ← to_z-of_z w128 c.self.inside.rise (search rules)) c.kept_of-member.ensures.kept

items_are : (c : After-push_reserved) → c.push_reserved.new.self.items ≡ c.self.inside.members.items ++ kept c ∷ []
items_are c = grind (arith, kept_is, c.push_reserved.ensures.items)

nearest_are : (c : After-push_reserved) → (with_items c.self.inside.nearest c.take_nearer.new.nearest).items ≡ c.take_nearer.new.nearest
nearest_are c = grind (arith, with_items_is, c.take_nearer.auto.nearest, c.deref_mut.ensures.len)

taken : (c : After-push_reserved) → (v : ℕ) → v < c.self.inside.costs.size →
    IsTakenAt c.self.inside.costs (kept c) c.is_empty-first.result v (nearest_at c.self.inside.nearest.items v) (nearest_at c.take_nearer.new.nearest v)
taken c v within = grind (arith, kept_is, c.deref_mut.ensures.value, c.take_nearer.ensures.taken, within)

pub invariant_of-self : goal.invariant_of-self
invariant_of-self c =
    let e = c.self.inside in
    let ms = e.members.items in
    let at = (goal.at.invariant_of-self c).After-self in
    let len_is : c.len.result ≡ length ms = omega (arith, c.len.ensures, e.members.ok) in
    let none : c.is_empty-first.result ≡ true → length ms ≡ 0 = λ is. search rules in
    let some : c.is_empty-first.result ≡ false → 0 < length ms = λ is. search rules in
    let count : length c.take_nearer.new.nearest ≡ e.costs.size = c.take_nearer.ensures.count in
    let near = IsNear-added c.self.invariant.near c.args.leaf c.args.total (low at) (fresh at) (search rules)
    c.is_empty-first.result none some c.take_nearer.new.nearest count (taken c) in
    record { near = rw (items_are c, nearest_are c, len_is) near; room = search rules }

pub returns-clause-members : goal.returns-clause-members
returns-clause-members c =
    let e = c.self.inside in
    let at = (goal.at.returns-clause-members c).After-self in
    subst (λ (s : Known). members_of e.rise c.push_reserved.new.self.items ≡ s.members ++ record { leaf = c.args.leaf; total = c.args.total } ∷ [])
    c.self.view_is
    (ap (members_of e.rise) (items_are c)
    ∙ members-more c.self.invariant.near c.args.leaf c.args.total (low at) (fresh at)
    (search rules))
