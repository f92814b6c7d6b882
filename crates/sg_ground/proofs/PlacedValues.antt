-- Values written to rising places, one by one.
use Rattle.std.proofs.Common.{inl, inr, ◌≡◌, ℕ, zero, suc, ◌+◌, ◌<◌, ◌≤◌, ℤ, pos, Bool, false, ◌||◌, eqb, List, take}
use Rattle.std.proofs.Common.{set, refl, sym, ◌∙◌, ap, subst, arith, length, get_or, All}
use Rattle.std.specs.List.Sorted.{IsStrictlyIncreasing}
use Rattle.std.proofs.lemmas.Bool.{cases_eq, eq-eqb, false≢true}
use Rattle.std.proofs.lemmas.List.{get_or-set_other, get_or-set_same, get_or-take, get_or_default, length-set, length-take, take_all}
use Rattle.std.proofs.lemmas.List.Folds.{list_any_more}
use Rattle.sg_base.specs.Sets.{holds}
use Rattle.sg_base.proofs.OneMore.{rising_order}
use Rattle.sg_model.specs.Spins.{spin}
use Rattle.sg_ground.specs.Placed.{WritesAt, numbered}

both_false : (a b : Bool) → (a || b) ≡ false → (a ≡ false) × (b ≡ false)
both_false a b h = (grind arith, grind arith)

-- one value more at its place
pub written_more : (places : List ℕ) (part old now : List ℤ) (i : ℕ) (y : ℤ) → IsStrictlyIncreasing places → All (λ x. x < length old) places →
    length part ≡ length places → i < length places → y ≡ get_or part i (pos 0) → WritesAt (take i places) part old now →
    WritesAt (take (i + 1) places) part old (set now (get_or places i 0) y)
written_more places part old now i y up below count l value was = record {
  count = length-set now (get_or places i 0) y ∙ was.count;
  values = values_more;
  others = others_more;
}
  where
    inside : get_or places i 0 < length now
    inside = omega (arith, below i 0 l, was.count)

    values_more : (k : ℕ) → k < length (take (i + 1) places) → spin (set now (get_or places i 0) y) (numbered (take (i + 1) places) k) ≡ spin part k
    values_more k m =
        let low : k < i + 1 = omega (arith, m, length-take (i + 1) places) in
        let place : numbered (take (i + 1) places) k ≡ get_or places k 0 = get_or-take (i + 1) places k 0 low in
        ap (spin (set now (get_or places i 0) y)) place ∙ (elim (cases_eq k i) [
          | inl same ↦
              ap (λ j. spin (set now (get_or places i 0) y) (get_or places j 0)) same
              ∙ get_or-set_same now (get_or places i 0) y (pos 1) inside ∙ value
              ∙ get_or_default part i (pos 0) (pos 1) (omega (arith, l, count)) ∙ ap (spin part) (sym same)
          | inr other ↦
              let before : k < i = omega (arith, low, other) in
              let less : get_or places k 0 < get_or places i 0 = rising_order places up k i before l in
              get_or-set_other now (get_or places i 0) (get_or places k 0) y (pos 1) (λ e. omega (arith, e, less))
              ∙ ap (spin now) (sym (get_or-take i places k 0 before))
              ∙ was.values k (omega (arith, before, l, length-take i places))
        ])

    others_more : (x : ℕ) → holds (take (i + 1) places) x ≡ false → spin (set now (get_or places i 0) y) x ≡ spin old x
    others_more x out =
        let parts = both_false (holds (take i places) x) (eqb (get_or places i 0) x) (sym (list_any_more (λ z. eqb z x) places i 0 l) ∙ out) in
        get_or-set_other now (get_or places i 0) x y (pos 1)
        (λ (e : x ≡ get_or places i 0). false≢true (sym parts.1 ∙ eq-eqb (get_or places i 0) x (sym e)))
        ∙ was.others x parts.0

-- values can be written to rising places
some_written : (places : List ℕ) (part old : List ℤ) → IsStrictlyIncreasing places → All (λ x. x < length old) places → length part ≡ length places →
    (i : ℕ) → i ≤ length places → (now : List ℤ) × WritesAt (take i places) part old now
some_written places part old up below count zero l = (old, record { count = refl; values = λ k m. absurd (omega (arith, m)); others = λ x out. refl })
some_written places part old up below count (suc i) l =
    let (now, was) = some_written places part old up below count i (omega (arith, l)) in
    let next : i + 1 ≡ suc i = omega arith in (
      set now (get_or places i 0) (get_or part i (pos 0)),
      subst (λ j. WritesAt (take j places) part old (set now (get_or places i 0) (get_or part i (pos 0)))) next
          (written_more places part old now i (get_or part i (pos 0)) up below count (omega (arith, l)) refl was),
    )

-- all values can be written to their places
pub all_written : (places : List ℕ) (part old : List ℤ) → IsStrictlyIncreasing places → All (λ x. x < length old) places → length part ≡ length places →
    (now : List ℤ) × WritesAt places part old now
all_written places part old up below count =
    let (now, some) = some_written places part old up below count (length places) (omega arith) in
    (now, subst (λ xs. WritesAt xs part old now) (take_all (length places) places (omega arith)) some)
