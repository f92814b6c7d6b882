-- `has`: a member stands at its place.
use Rattle.std.proofs.Common.{◌≡◌, ◌<◌, length, nat_eq, nat_lt, get_or, arith, subst, sym, ap, ◌∙◌, IsTrue, pos}
use Rattle.std.proofs.lemmas.Bool.{eq-eqb, eqb-true, false≢true, le-ltb}
use Rattle.std.proofs.lemmas.List.{get_or_default}
use Rattle.sg_slack.proofs.NearLemmas.{IsMember-kept, placed-member}
use Rattle.sg_slack.specs.Kept.{kept_at}
use Rattle.sg_slack.specs.Members.{IsMember, Known}
use Rattle.sg_slack.specs.declared.member.Kept.{Kept}
use Rattle.sg_slack.proofs.near.Near.has.Goals as goal

pub returns-then-place-len : goal.returns-then-place-len
returns-then-place-len c =
    let e = c.self.inside in
    let leaf = c.args.leaf in
    let place = c.index-place.result.now in
    let ms = e.members.items in
    let low : place < length ms = omega (arith, c.if-place-len.true, c.len.ensures, e.members.ok) in
    let low_table : leaf < e.costs.size = subst (λ (s : Known). leaf < s.table.size) (sym c.self.view_is) c.requires in
    let low_leaf : leaf < length e.places.items = omega (arith, low_table, c.self.invariant.near.places_count) in
    let place_is : place ≡ get_or e.places.items leaf 0 = c.index-place.ensures ∙ get_or_default e.places.items leaf place 0 low_leaf in
    let here : c.index.result.now ≡ kept_at ms place = c.index.ensures ∙ get_or_default ms place c.index.result.now (record { leaf = 0; base = pos 0 }) low in
    subst (λ (s : Known). (IsTrue (nat_eq c.index.result.now.leaf leaf) → IsMember s.members leaf) × (IsMember s.members leaf →
    IsTrue (nat_eq c.index.result.now.leaf leaf))) c.self.view_is (
      (λ hit. IsMember-kept e.rise ms place leaf low (ap (λ (m : Kept). m.leaf) (sym here) ∙ eqb-true c.index.result.now.leaf leaf hit)),
      (λ is.
          let at = placed-member c.self.invariant.near leaf is in
          eq-eqb c.index.result.now.leaf leaf (ap (λ (m : Kept). m.leaf) here ∙ ap (λ i. (kept_at ms i).leaf) place_is ∙ at.1)),
    )

pub returns-else-place-len : goal.returns-else-place-len
returns-else-place-len c =
    let e = c.self.inside in
    let leaf = c.args.leaf in
    let place = c.index-place.result.now in
    let low_table : leaf < e.costs.size = subst (λ (s : Known). leaf < s.table.size) (sym c.self.view_is) c.requires in
    let low_leaf : leaf < length e.places.items = omega (arith, low_table, c.self.invariant.near.places_count) in
    let place_is : place ≡ get_or e.places.items leaf 0 = c.index-place.ensures ∙ get_or_default e.places.items leaf place 0 low_leaf in
    subst (λ (s : Known). (IsTrue (nat_lt place c.len.result) → IsMember s.members leaf) × (IsMember s.members leaf →
    IsTrue (nat_lt place c.len.result))) c.self.view_is (
      (λ hit. absurd (false≢true (sym (le-ltb place c.len.result c.if-place-len.false) ∙ hit))),
      (λ is.
          let at = placed-member c.self.invariant.near leaf is in
          absurd (omega (arith, at.0, place_is, c.if-place-len.false, c.len.ensures, e.members.ok))),
    )
