-- Moats over unit steps: over one step each depth changes by at most 1, and only one of them does. So over n steps all
-- depths together change by at most n.
use Rattle.std.proofs.Common.{inl, inr, ◌≡◌, ◌≢◌, ◌⊎◌, ℕ, zero, suc, ◌+◌, ◌<◌, ◌≤◌, min, arith}
use Rattle.std.proofs.lemmas.Bool.{cases_eq, cases_lt}
use Rattle.sg_base.specs.Sums.{sum_below}
use Rattle.sg_base.proofs.SumLaws.{sum_below-add, sum_below-le, sum_below-zero}
use Rattle.sg_base.proofs.Tallies.{sum_below_unique}
use Rattle.sg_base.specs.Naturals.{gap}

gap_triangle : (x y z : ℕ) → gap x z ≤ gap x y + gap y z
gap_triangle x y z = omega arith

-- what a set reaches at the two ends of a step, within 1 of each other
abbrev pub Near : ℕ → ℕ → Type 0
Near p q = (p ≤ q + 1) × (q ≤ p + 1)

-- two disjoint sets at a point, by their duals and what they reach
abbrev pub Apart : ℕ → ℕ → ℕ → ℕ → Type 0
Apart y y' p p' = y + y' ≤ p + p'

-- a set within another: where it is not full yet, the other reaches
abbrev pub Inner : ℕ → ℕ → ℕ → Type 0
Inner y' p' p = p' ≤ y' → p ≡ 0

apart_one_moves : (y y' p q p' q' : ℕ) → Near p q → Near p' q' → Apart y y' p p' → Apart y y' q q' →
    (gap (min y p) (min y q) ≡ 0) ⊎ (gap (min y' p') (min y' q') ≡ 0)
apart_one_moves y y' p q p' q' n n' a b = grind arith

inner_one_moves : (y y' p q p' q' : ℕ) → Near p q → Near p' q' → Inner y' p' p → Inner y' q' q →
    (gap (min y p) (min y q) ≡ 0) ⊎ (gap (min y' p') (min y' q') ≡ 0)
inner_one_moves y y' p q p' q' n n' a b = grind arith

near_moves : (y p q : ℕ) → Near p q → gap (min y p) (min y q) ≤ 1
near_moves y p q n = omega arith

-- sets by number: the dual of each, and what it reaches at each of the points 0 to n
module _ (y : ℕ → ℕ) (reach : ℕ → ℕ → ℕ) (n : ℕ) where
  abbrev pub depth : ℕ → ℕ → ℕ
  depth s k = min (y s) (reach s k)

  -- how two sets stand to each other at each point
  pub data Stands (s s' : ℕ) : Type 0 where
    disjoint : ((k : ℕ) → k ≤ n → Apart (y s) (y s') (reach s k) (reach s' k)) → Stands s s'
    outer : ((k : ℕ) → k ≤ n → Inner (y s') (reach s' k) (reach s k)) → Stands s s'
    inner : ((k : ℕ) → k ≤ n → Inner (y s) (reach s k) (reach s' k)) → Stands s s'

  module _ (count : ℕ) (near : (s : ℕ) → s < count → 0 < y s → (k : ℕ) → k < n → Near (reach s k) (reach s (suc k)))
      (stands : (s s' : ℕ) → s < count → s' < count → 0 < y s → 0 < y s' → s ≢ s' → Stands s s') where
    one_of_two : (s s' k : ℕ) → k < n → Near (reach s k) (reach s (suc k)) → Near (reach s' k) (reach s' (suc k)) → Stands s s' →
        (gap (depth s k) (depth s (suc k)) ≡ 0) ⊎ (gap (depth s' k) (depth s' (suc k)) ≡ 0)
    one_of_two s s' k h1 h2 h3 h4 = grind (arith, apart_one_moves, inner_one_moves)

    moves : ℕ → ℕ → ℕ
    moves k s = gap (depth s k) (depth s (suc k))

    one_step : (k : ℕ) → k < n → sum_below (moves k) count ≤ 1
    unfolding moves
    one_step k l = sum_below_unique (moves k) 1 count small one
      where
        small : (s : ℕ) → s < count → gap (depth s k) (depth s (suc k)) ≤ 1
        small s low = elim (cases_lt 0 (y s)) [
          | inl some ↦ near_moves (y s) (reach s k) (reach s (suc k)) (near s low some k l)
          | inr none ↦ omega arith
        ]

        one : (i j : ℕ) → i < count → j < count → 0 < gap (depth i k) (depth i (suc k)) → 0 < gap (depth j k) (depth j (suc k)) → i ≡ j
        one i j li lj p q = elim (cases_eq i j) [
          | inl e ↦ e
          | inr ne ↦
              let some : 0 < y i = omega arith in
              let some' : 0 < y j = omega arith in
              elim (one_of_two i j k l (near i li some k l) (near j lj some' k l) (stands i j li lj some some' ne)) [
                | inl e ↦ absurd (omega arith)
                | inr e ↦ absurd (omega arith)
              ]
        ]

    -- over n unit steps all depths together change by at most n
    pub depths_change : sum_below (λ s. gap (depth s 0) (depth s n)) count ≤ n
    unfolding moves
    depths_change = upto n (omega arith)
      where
        upto : (q : ℕ) → q ≤ n → sum_below (λ s. gap (depth s 0) (depth s q)) count ≤ q
        upto zero l = omega (arith, sum_below-zero (λ s. gap (depth s 0) (depth s 0)) count (λ s b. omega arith))
        upto (suc q) l =
            omega (
              arith,
              upto q (omega arith),
              one_step q (omega arith),
              sum_below-add (λ s. gap (depth s 0) (depth s q)) (moves q) count,
              sum_below-le (λ s. gap (depth s 0) (depth s (suc q))) (λ s. gap (depth s 0) (depth s q) + moves q s) count
                  (λ s b. gap_triangle (depth s 0) (depth s q) (depth s (suc q))),
            )
