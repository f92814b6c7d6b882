-- `shift`: one number grows for all members.
use Rattle.std.proofs.Common.{◌≡◌, ◌<◌, length, ℤ, pos, ◌+ℤ◌, false, true, arith, inl, inr, subst, sym, rules, to_z, of_z}
use Rattle.std.specs.Int.{w128}
use Rattle.std.proofs.lemmas.Bool.{cases_Bool}
use Rattle.std.proofs.lemmas.Int.{ints, to_z-of_z}
use Rattle.sg_slack.proofs.NearLemmas.{IsNear-shifted, members-grown, members-none}
use Rattle.sg_slack.specs.Kept.{IsNear}
use Rattle.sg_slack.specs.Members.{Known, TotalsFit}
use Rattle.sg_slack.proofs.near.Near.shift.Goals as goal

-- the rise that is written
abbrev risen : goal.After-self-1 → ℤ
risen c = to_z w128 (of_z w128 c.risen-self-inside.result)

none_is : (c : goal.After-self-1) → c.is_empty.result ≡ true → risen c ≡ pos 0
none_is c none = grind (arith, ints, to_z-of_z, c.risen-self-inside.ensures.none, none)

some_is : (c : goal.After-self-1) → c.is_empty.result ≡ false → risen c ≡ c.self.inside.rise +ℤ c.args.delta
some_is c later = grind (arith, ints, to_z-of_z, c.risen-self-inside.ensures.some, later)

pub invariant_of-self : goal.invariant_of-self
invariant_of-self c =
    let e = c.self.inside in
    let ms = e.members.items in
    elim (cases_Bool c.is_empty.result) [
      | inl none ↦
          let kept = c.self.invariant in
          grind (arith, ints, none_is, e.rise, kept.near.rise_none, c, e.costs, e.places.items, e.nearest.items, kept.near, kept.room)
      | inr later ↦
          let some : 0 < length ms = search rules in
          let fits = subst (λ (s : Known). TotalsFit c.args.delta s.members) (sym c.self.view_is) c.requires.fits in
          record {
            near = subst (λ z. IsNear e.costs z ms e.places.items e.nearest.items) (sym (some_is c later))
                (IsNear-shifted c.self.invariant.near c.args.delta some c.requires.whole fits);
            room = c.self.invariant.room;
          }
    ]

pub returns-clause-members : goal.returns-clause-members
returns-clause-members c = grind (arith, ints, cases_Bool, members-none, some_is, members-grown, c, c.self.view_is)
