-- A step gives each of its darts to the spin that the dart leaves, once.
use Rattle.std.proofs.Common.{◌≡◌, ℕ, ◌+◌, ◌*◌, ◌/◌, ◌%◌, ◌<◌, ◌≤◌, Bool, true, not, cond, ◌&&◌, eqb, leb, ltb, sym, ◌∙◌, ap, ap₂, arith}
use Rattle.std.proofs.lemmas.Bool.{and_parts, and_from, eq-eqb, eqb-true, eqb-false, lt-ltb, le-leb, ne_eqb, not-true, not_from_false}
use Rattle.std.proofs.lemmas.Nat.{same_from_place}
use Rattle.sg_model.specs.Ising.{Ising}
use Rattle.sg_model.specs.Rotation.{tail}
use Rattle.sg_model.proofs.Darts.{tail_first, tail_second}
use Rattle.sg_lattice.proofs.Steps.{IsGridStep}
use Rattle.sg_lattice.proofs.LatticeBonds.{IsLaid}

-- the darts of the bonds from `base` up to `end`
abbrev pub in_block : ℕ → ℕ → ℕ → Bool
in_block base end d = leb (2 * base) d && ltb d (2 * end)

in_block-from : (base end d : ℕ) → 2 * base ≤ d → d < 2 * end → in_block base end d ≡ true
in_block-from base end d lo hi = and_from (leb (2 * base) d) (ltb d (2 * end)) (le-leb (2 * base) d lo) (lt-ltb d (2 * end) hi)

in_block-parts : (base end d : ℕ) → in_block base end d ≡ true → (base ≤ d / 2) × (d / 2 < end)
in_block-parts base end d h = grind arith

-- darts at places, each of which leaves the spin of its place; `own` tells which they are
record AreDarts (inst : Ising) (R C : ℕ) (has : ℕ → ℕ → Bool) (dart : ℕ → ℕ → ℕ) (own : ℕ → Bool) : Type 0 where
  at : (r c : ℕ) → r < R → c < C → has r c ≡ true → (own (dart r c) ≡ true) × (tail inst (dart r c) ≡ r * C + c)
  each : (d : ℕ) → own d ≡ true → (r : ℕ) × (c : ℕ) × (r < R) × (c < C) × (has r c ≡ true) × (dart r c ≡ d)

same : (a b : Bool) → (a ≡ true → b ≡ true) → (b ≡ true → a ≡ true) → a ≡ b
same a b there back = grind arith

-- dart d stands at (r, c) exactly where it is one of them and leaves that spin
darts_count : {inst : Ising} {R C : ℕ} {has : ℕ → ℕ → Bool} {dart : ℕ → ℕ → ℕ} {own : ℕ → Bool} → AreDarts inst R C has dart own
    → (r c d : ℕ) → r < R → c < C → cond {A = ℕ} (has r c && eqb (dart r c) d) 1 0 ≡ cond {A = ℕ} (own d && eqb (tail inst d) (r * C + c)) 1 0
darts_count {inst} {R} {C} {has} {dart} {own} are r c d a b =
    ap (λ t. cond {A = ℕ} t 1 0) (same (has r c && eqb (dart r c) d) (own d && eqb (tail inst d) (r * C + c)) there here)
  where
    there : (has r c && eqb (dart r c) d) ≡ true → (own d && eqb (tail inst d) (r * C + c)) ≡ true
    there h = grind arith

    here : (own d && eqb (tail inst d) (r * C + c)) ≡ true → (has r c && eqb (dart r c) d) ≡ true
    here h =
        let both = and_parts (own d) (eqb (tail inst d) (r * C + c)) h in
        let w = are.each d both.0 in
        let leaves : w.0 * C + w.1 ≡ r * C + c =
        sym (are.at w.0 w.1 w.2 w.3 w.4).1 ∙ ap (tail inst) w.5 ∙ eqb-true (tail inst d) (r * C + c) both.1 in
        let place = same_from_place w.0 w.1 r c C w.3 b leaves in
        and_from (has r c) (eqb (dart r c) d) (ap₂ has (sym place.0) (sym place.1) ∙ w.4)
        (eq-eqb (dart r c) d (ap₂ dart (sym place.0) (sym place.1) ∙ w.5))

-- the even and the odd darts of a block make it up
halves_joined : (b e t : Bool) → cond {A = ℕ} ((b && e) && t) 1 0 + cond {A = ℕ} ((b && not e) && t) 1 0 ≡ cond {A = ℕ} (b && t) 1 0
halves_joined b e t = grind arith

module _ {inst : Ising} {R C base end : ℕ} {has : ℕ → ℕ → Bool} {number er ec : ℕ → ℕ → ℕ} {comes : ℕ → ℕ → Bool}
    {sr sc : ℕ → ℕ → ℕ}
    (step : IsGridStep R C has er ec comes sr sc)
    (laid : IsLaid inst R C base end has number er ec) where
  forth : AreDarts inst R C has (λ r c. 2 * number r c) (λ d. in_block base end d && eqb (d % 2) 0)
  forth = record {
    at = λ r c a b h. let k : ℕ = number r c in let bond = laid.at r c a b h in (
      and_from (in_block base end (2 * k)) (eqb (2 * k % 2) 0) (in_block-from base end (2 * k) (omega (arith, bond.0)) (omega (arith, bond.1)))
          (eq-eqb (2 * k % 2) 0 (omega arith)),
      tail_first inst k ∙ bond.2,
    );
    each = λ d h. let both = and_parts (in_block base end d) (eqb (d % 2) 0) h in
        let near = in_block-parts base end d both.0 in
        let w = laid.each (d / 2) near.0 near.1 in
        (w.0, w.1, w.2, w.3, w.4, omega (arith, w.5, eqb-true (d % 2) 0 both.1));
  }

  back : AreDarts inst R C comes (λ r c. 2 * number (sr r c) (sc r c) + 1) (λ d. in_block base end d && not (eqb (d % 2) 0))
  back = record {
    at = λ r c a b h. let k : ℕ = number (sr r c) (sc r c) in
        let source = step.sources r c a b h in
        let bond = laid.at (sr r c) (sc r c) source.0 source.1 source.2 in
        let odd : (2 * k + 1) % 2 ≡ 0 → ⊥ = λ e. omega arith in (
          and_from (in_block base end (2 * k + 1)) (not (eqb ((2 * k + 1) % 2) 0))
              (in_block-from base end (2 * k + 1) (omega (arith, bond.0)) (omega (arith, bond.1)))
              (not_from_false (eqb ((2 * k + 1) % 2) 0) (ne_eqb ((2 * k + 1) % 2) 0 odd)),
          tail_second inst k ∙ bond.3 ∙ ap₂ (λ x y. x * C + y) source.3 source.4,
        );
    each = λ d h. let both = and_parts (in_block base end d) (not (eqb (d % 2) 0)) h in
        let near = in_block-parts base end d both.0 in
        let odd : d % 2 ≡ 0 → ⊥ = eqb-false (d % 2) 0 (not-true (eqb (d % 2) 0) both.1) in
        let w = laid.each (d / 2) near.0 near.1 in
        let ends = step.ends w.0 w.1 w.2 w.3 w.4 in
        (er w.0 w.1, ec w.0 w.1, ends.0, ends.1, ends.2, ap₂ (λ r c. 2 * number r c + 1) ends.3 ends.4 ∙ omega (arith, w.5));
  }

  -- of the two darts of the step at spin (r, c), dart d is one exactly where it belongs to the step and leaves that spin
  pub step_count : (r c d : ℕ) → r < R → c < C
      → cond {A = ℕ} (has r c && eqb (2 * number r c) d) 1 0 + cond {A = ℕ} (comes r c && eqb (2 * number (sr r c) (sc r c) + 1) d) 1 0
      ≡ cond {A = ℕ} (in_block base end d && eqb (tail inst d) (r * C + c)) 1 0
  step_count r c d a b = simp (darts_count, forth, back, halves_joined)
