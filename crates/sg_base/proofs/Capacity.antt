-- Weak duality: weighted sets, each with a marked number, and at each number a capacity that the weights there do not
-- exceed. Then all weights together are at most the capacities of the marked numbers.
use Rattle.std.proofs.Common.{◌≡◌, ℕ, ◌<◌, ◌≤◌, Bool, true, false, cond, List, [], ◌∷◌, refl, arith, sum_by, All}
use Rattle.std.proofs.lemmas.List.Elements.{All-weaker}
use Rattle.sg_base.specs.Sums.{sum_below}
use Rattle.sg_base.specs.Loads.{load_at, HasMarked}
use Rattle.sg_base.proofs.SumLaws.{sum_below-le, sum_by-le-all, sum_exchange, at-le-sum_below}

module _ {L : Type 0} (y : L → ℕ) (has : L → ℕ → Bool) where
  marked_load : (b : Bool) (k : ℕ) (ls : List L) → sum_by (λ l. cond b (cond (has l k) (y l) 0) 0) ls ≡ cond b (load_at y has ls k) 0
  marked_load true k ls = refl
  marked_load false k [] = refl
  marked_load false k (l ∷ ls) = marked_load false k ls

  -- all weights together are at most the capacities of the marked numbers
  pub weights_below_capacity : (p : ℕ → Bool) (cap : ℕ → ℕ) (m : ℕ) (ls : List L) → All (HasMarked y has p m) ls →
      ((k : ℕ) → k < m → load_at y has ls k ≤ cap k) → sum_by y ls ≤ sum_below (λ k. cond (p k) (cap k) 0) m
  weights_below_capacity p cap m ls marked within =
      let part : L → ℕ → ℕ = λ l k. cond (p k) (cond (has l k) (y l) 0) 0 in
      let each : sum_by y ls ≤ sum_by (λ l. sum_below (part l) m) ls =
      sum_by-le-all y (λ l. sum_below (part l) m) ls
      (All-weaker (HasMarked y has p m) (λ l. y l ≤ sum_below (part l) m) (λ l h. one l h.0 h.1 h.2 h.3) ls marked) in
      let turned : sum_by (λ l. sum_below (part l) m) ls ≡ sum_below (λ k. sum_by (λ l. part l k) ls) m = sum_exchange part ls m in
      let capped : sum_below (λ k. sum_by (λ l. part l k) ls) m ≤ sum_below (λ k. cond (p k) (cap k) 0) m = grind (arith, sum_below-le, bounded) in
      omega arith
    where
      one : (l : L) (k : ℕ) → k < m → p k ≡ true → has l k ≡ true → y l ≤ sum_below (λ k. cond (p k) (cond (has l k) (y l) 0) 0) m
      one l k b marked_k held =
          let here : cond (p k) (cond (has l k) (y l) 0) 0 ≡ y l = rw (marked_k, held) refl in
          let le : cond (p k) (cond (has l k) (y l) 0) 0 ≤ sum_below (λ k. cond (p k) (cond (has l k) (y l) 0) 0) m =
          at-le-sum_below (λ k. cond (p k) (cond (has l k) (y l) 0) 0) k m b in
          omega arith

      bounded : (b : Bool) (k : ℕ) → k < m → sum_by (λ l. cond b (cond (has l k) (y l) 0) 0) ls ≤ cond b (cap k) 0
      bounded b k h = grind (arith, marked_load)
