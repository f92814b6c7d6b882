-- Tallies: how often a number stands in a list, summed over the numbers; and sums in which one term at most counts.
use Rattle.std.proofs.lemmas.Grind.{common_steps}
use Rattle.std.proofs.lemmas.Bool.Decides.{nat_tests}
use Rattle.std.proofs.Common.{◌≡◌, ℕ, zero, suc, ◌+◌, ◌*◌, ◌<◌, ◌≤◌, Bool, cond, eqb, List, [], ◌∷◌, length, get_or, sum_by, refl, sym, ap, ◌∙◌, inl, inr, arith, eq-eqb}
use Rattle.std.specs.List.{range_with_len}
use Rattle.std.proofs.lemmas.Bool.{cases_eq, cases_lt, ne_eqb}
use Rattle.std.proofs.lemmas.List.Sums.{sum_by-cons}
use Rattle.std.proofs.lemmas.List.FromFn.{get_or-range_with_len, length-range_with_len}
use Rattle.sg_base.specs.Sums.{sum_below}
use Rattle.sg_base.proofs.SumLaws.{sum_below-add, sum_below-zero, sum_below-same, sum_exchange, sum_by_is_sum_below, sum_below_pick}

-- the order of two sums over numbers is free
pub below_exchange : (f : ℕ → ℕ → ℕ) (p q : ℕ) → sum_below (λ l. sum_below (f l) q) p ≡ sum_below (λ k. sum_below (λ l. f l k) p) q
below_exchange f zero q = sym (sum_below-zero (λ k. 0) q (λ k l. refl))
below_exchange f (suc p) q = omega (arith, below_exchange f p q, sum_below-add (λ k. sum_below (λ l. f l k) p) (f p) q)

-- where only one of the terms is above 0, the sum is at most a bound of each
pub sum_below_unique : (g : ℕ → ℕ) (b n : ℕ) → ((k : ℕ) → k < n → g k ≤ b) →
    ((i j : ℕ) → i < n → j < n → 0 < g i → 0 < g j → i ≡ j) → sum_below g n ≤ b
sum_below_unique g b zero small one = omega arith
sum_below_unique g b (suc n) small one = elim (cases_lt 0 (g n)) [
  | inl here ↦ grind (arith, sum_below-zero)
  | inr none ↦ grind (arith, sum_below_unique g b n)
]

-- a sum of ones
pub sum_below_ones : (n : ℕ) → sum_below (λ k. 1) n ≡ n
sum_below_ones zero = refl
sum_below_ones (suc n) = omega (arith, sum_below_ones n)

-- a sum of multiples
pub sum_below_times : (c : ℕ) (f : ℕ → ℕ) (n : ℕ) → sum_below (λ k. c * f k) n ≡ c * sum_below f n
sum_below_times c f zero = omega arith
sum_below_times c f (suc n) = grind (arith, sum_below_times c f n)

-- a sum over the list of a range
pub sum_by-range : (g : ℕ → ℕ) (n : ℕ) → sum_by g (range_with_len 0 n) ≡ sum_below g n
sum_by-range g n =
    sum_by_is_sum_below g (range_with_len 0 n) 0
    ∙ ap (sum_below (λ k. g (get_or (range_with_len 0 n) k 0))) (length-range_with_len 0 n)
    ∙ sum_below-same (λ k. g (get_or (range_with_len 0 n) k 0)) g n (λ k l. ap g (get_or-range_with_len 0 n k 0 l ∙ (let e : 0 + k ≡ k = omega arith in e)))

-- a test counts at most one
pub cond_small : (b : Bool) → cond {A = ℕ} b 1 0 ≤ 1
cond_small b = grind arith

module _ {X : Type 0} (f : X → ℕ) where
  -- how often m is the number of an entry
  abbrev pub times : ℕ → List X → ℕ
  times m xs = sum_by (λ x. cond (eqb (f x) m) 1 0) xs

  once_positive : (x : X) (m : ℕ) → 0 < cond (eqb (f x) m) 1 0 → f x ≡ m
  once_positive x m h = grind (arith, cases_eq (f x) m, ne_eqb)

  -- all entries below r are counted at some number below r
  pub times_total : (xs : List X) (d : X) (r : ℕ) → ((i : ℕ) → i < length xs → f (get_or xs i d) < r) → sum_below (λ m. times m xs) r ≡ length xs
  times_total xs d r low =
      let one : X → ℕ → ℕ = λ x m. cond (eqb (f x) m) 1 0 in
      let turned : sum_by (λ x. sum_below (one x) r) xs ≡ sum_below (λ m. times m xs) r = sum_exchange one xs r in
      let placed = sum_by_is_sum_below (λ x. sum_below (one x) r) xs d in
      let ones : sum_below (λ i. sum_below (one (get_or xs i d)) r) (length xs) ≡ sum_below (λ i. 1) (length xs) =
      sum_below-same (λ i. sum_below (one (get_or xs i d)) r) (λ i. 1) (length xs) (λ i l. sum_below_pick 1 (f (get_or xs i d)) r (low i l)) in
      omega (arith, sum_below_ones (length xs))

  -- the tallies of the numbers below r sum to at most the length of the list
  pub times_at_most : (xs : List X) (r : ℕ) → sum_below (λ m. times m xs) r ≤ length xs
  times_at_most [] r = let z : sum_below (λ m. times m []) r ≡ 0 = sum_below-zero (λ m. times m []) r (λ k l. refl) in omega arith
  times_at_most (x ∷ xs) r =
      let one : ℕ → ℕ = λ m. cond (eqb (f x) m) 1 0 in
      let parts : sum_below (λ m. times m (x ∷ xs)) r ≡ sum_below (λ m. one m + times m xs) r = simp (sum_below-same, sum_by-cons) in
      let once : sum_below one r ≤ 1 = grind (arith, sum_below_unique, cond_small, once_positive) in
      omega (arith, times_at_most xs r, sum_below-add one (λ m. times m xs) r)

  -- an entry that is counted stands somewhere
  pub times_place : (m : ℕ) (xs : List X) (d : X) → 0 < times m xs → (i : ℕ) × (i < length xs) × (f (get_or xs i d) ≡ m)
  times_place m [] d h = absurd (omega arith)
  times_place m (x ∷ xs) d h = elim (cases_eq (f x) m) [
    | inl e ↦ (0, omega arith, e)
    | inr ne ↦
        let z : cond {A = ℕ} (eqb (f x) m) 1 0 ≡ 0 = ap (λ b. cond b 1 0) (ne_eqb (f x) m ne) in
        let r : (i : ℕ) × (i < length xs) × (f (get_or xs i d) ≡ m) = times_place m xs d (omega (arith, sum_by-cons (λ y. cond (eqb (f y) m) 1 0) x xs)) in
        (suc r.0, omega (arith, r.1), r.2)
  ]

  -- where no two entries are equal, each is counted once
  pub times_once : (m : ℕ) (xs : List X) (d : X) →
      ((i j : ℕ) → i < length xs → j < length xs → f (get_or xs i d) ≡ f (get_or xs j d) → i ≡ j) → times m xs ≤ 1
  times_once m xs d differ =
      let one : ℕ → ℕ = λ i. cond (eqb (f (get_or xs i d)) m) 1 0 in
      let e : times m xs ≡ sum_below one (length xs) = sum_by_is_sum_below (λ x. cond (eqb (f x) m) 1 0) xs d in
      let u : sum_below one (length xs) ≤ 1 = grind (arith, sum_below_unique, cond_small, once_positive) in
      omega arith

  -- an entry counts
  pub times_some : (m : ℕ) (xs : List X) (d : X) (i : ℕ) → i < length xs → f (get_or xs i d) ≡ m → 1 ≤ times m xs
  times_some m [] d i low e = absurd (omega arith)
  times_some m (x ∷ xs) d zero low e = grind (arith, common_steps, nat_tests, eq-eqb, sum_by-cons)
  times_some m (x ∷ xs) d (suc i) low e = omega (arith, times_some m xs d i (omega arith) e, sum_by-cons (λ y. cond (eqb (f y) m) 1 0) x xs)
