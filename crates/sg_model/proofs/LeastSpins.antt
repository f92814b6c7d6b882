-- The list of least spins is the only one.
use Rattle.std.proofs.Common.{◌≡◌, ◌∙◌, sym, ap, ap₂, subst, refl, ℕ, zero, suc, ◌-◌, ◌<◌, ◌≤◌, length, get_or, Bool, true, false, ◌||◌, eqb, eq-eqb, List, [], ◌∷◌, arith, inl, inr}
use Rattle.std.proofs.lemmas.Bool.{or_right, true≢false, eqb-true, false_from_ne_true, cases_eq, cases_lt}
use Rattle.std.proofs.Math.Bool.{or-false}
use Rattle.std.specs.List.Sorted.{IsStrictlyIncreasing}
use Rattle.sg_base.specs.Sets.{holds}
use Rattle.sg_base.proofs.RisingLists.{rising_rest, rises_over_first, holds_none_below}
use Rattle.sg_model.specs.Ising.{Ising}
use Rattle.sg_model.specs.Connected.{AreLeasts, IsConnected, IsLeastReached, all_bonds}
use Rattle.sg_model.proofs.Paths.{reached_back}

-- a number before the first is not held
before_first : (x y : ℕ) (ys : List ℕ) → IsStrictlyIncreasing (y ∷ ys) → x < y → holds (y ∷ ys) x ≡ false
before_first x y ys q l =
    let other : eqb y x ≡ false = false_from_ne_true (eqb y x) (λ h. let e : y ≡ x = eqb-true y x h in let never : ⊥ = omega (arith, e, l) in never) in
    let later : holds ys x ≡ false = holds_none_below y ys x (rises_over_first y ys q) (omega (arith, l)) in
    ap₂ (λ a b. a || b) other later

held_first : (x : ℕ) (xs : List ℕ) → holds (x ∷ xs) x ≡ true
held_first x xs = ap (λ b. b || holds xs x) (eq-eqb x x refl)

-- two strictly rising lists that hold the same numbers are one
pub same_rising : (xs ys : List ℕ) → IsStrictlyIncreasing xs → IsStrictlyIncreasing ys → ((i : ℕ) → holds xs i ≡ holds ys i) → xs ≡ ys
same_rising [] [] p q h = refl
same_rising [] (y ∷ ys) p q h = absurd (true≢false (sym (h y ∙ held_first y ys)))
same_rising (x ∷ xs) [] p q h = absurd (true≢false (sym (held_first x xs) ∙ h x))
same_rising (x ∷ xs) (y ∷ ys) p q h =
    ap₂ (λ (a : ℕ) (more : List ℕ). a ∷ more) same (same_rising xs ys (rising_rest x xs p) (rising_rest y ys q) (λ i. tails i))
  where
    same : x ≡ y
    same = elim (cases_lt x y) [
      | inl l ↦ absurd (true≢false (sym (held_first x xs) ∙ h x ∙ before_first x y ys q l))
      | inr past ↦ elim (cases_lt y x) [
        | inl l ↦ absurd (true≢false (sym (held_first y ys) ∙ sym (h y) ∙ before_first y x xs p l))
        | inr down ↦ omega (arith, past, down)
      ]
    ]

    tails : (i : ℕ) → holds xs i ≡ holds ys i
    tails i = elim (cases_eq x i) [
      | inl here ↦
          let left : holds xs i ≡ false = holds_none_below x xs i (rises_over_first x xs p) (omega (arith, here)) in
          let right : holds ys i ≡ false = holds_none_below y ys i (rises_over_first y ys q) (omega (arith, here, same)) in
          left ∙ sym right
      | inr other ↦
          let a : eqb x i ≡ false = false_from_ne_true (eqb x i) (λ t. other (eqb-true x i t)) in
          let b : eqb y i ≡ false = ap (λ z. eqb z i) (sym same) ∙ a in
          sym (ap (λ c. c || holds xs i) a) ∙ h i ∙ ap (λ c. c || holds ys i) b
    ]

alike : (a b : Bool) → (a ≡ true → b ≡ true) → (b ≡ true → a ≡ true) → a ≡ b
alike a b there back = grind arith

-- an instance has one list of least spins
pub one_list : (inst : Ising) (first second : List ℕ) → AreLeasts inst first → AreLeasts inst second → first ≡ second
one_list inst first second p q =
    same_rising first second p.rising q.rising
    (λ i. alike (holds first i) (holds second i) (λ t. (q.each i).1 ((p.each i).0 t)) (λ t. (p.each i).1 ((q.each i).0 t)))

-- a connected instance has one component, whose least spin is 0
pub connected_leasts : (inst : Ising) → 1 ≤ inst.n → IsConnected inst → AreLeasts inst (0 ∷ [])
connected_leasts inst some whole = record {
  rising = λ k l. absurd (omega (arith, l));
  each = λ i. ((λ h. subst (λ i. (i < inst.n) × IsLeastReached inst i) (only i h) (some, λ j r. omega arith)), (λ p. first i p.0 p.1));
}
  where
    only : (i : ℕ) → holds (0 ∷ []) i ≡ true → 0 ≡ i
    only i h = eqb-true 0 i (sym (or-false (eqb 0 i)) ∙ h)

    first : (i : ℕ) → i < inst.n → IsLeastReached inst i → holds (0 ∷ []) i ≡ true
    first i l least =
        let low : i ≤ 0 = least 0 (reached_back inst all_bonds 0 i (whole i l)) in
        ap (λ b. b || false) (eq-eqb 0 i (omega (arith, low)))

module _ (inst : Ising) (leasts : List ℕ) (are : AreLeasts inst leasts) where
  -- spin 0 is the least of its component
  pub leasts_some : 1 ≤ inst.n → 1 ≤ length leasts
  leasts_some some = held_some leasts ((are.each 0).1 (some, λ j r. omega arith))
    where
      held_some : (xs : List ℕ) → holds xs 0 ≡ true → 1 ≤ length xs
      held_some [] h = absurd (true≢false (sym h))
      held_some (x ∷ xs) h = omega arith

  -- a rising list of numbers below n has no more than n
  above_place : (k : ℕ) → k < length leasts → k ≤ get_or leasts k 0
  above_place zero l = omega arith
  above_place (suc k) l = grind (arith, above_place k)

  -- there are no more components than spins
  pub leasts_few : length leasts ≤ inst.n
  leasts_few = elim (cases_eq (length leasts) 0) [
    | inl none ↦ omega (arith, none)
    | inr some ↦
        let last : length leasts - 1 < length leasts = omega (arith, some) in
        let low : get_or leasts (length leasts - 1) 0 < inst.n = ((are.each (get_or leasts (length leasts - 1) 0)).0
        (holds_at leasts (length leasts - 1) last)).0 in
        omega (arith, above_place (length leasts - 1) last, low)
  ]
    where
      holds_at : (xs : List ℕ) (k : ℕ) → k < length xs → holds xs (get_or xs k 0) ≡ true
      holds_at [] k l = absurd (omega arith)
      holds_at (x ∷ xs) zero l = held_first x xs
      holds_at (x ∷ xs) (suc k) l = or_right (eqb x (get_or xs k 0)) (holds xs (get_or xs k 0)) (holds_at xs k (omega arith))
