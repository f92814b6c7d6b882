-- Sums dealt out: over pairs, over the classes of a labelling; and bounds that are met in sum are met each.
use Rattle.std.proofs.Common.{◌≡◌, ◌∙◌, sym, ap, ap₂, refl, ℕ, zero, suc, ◌+◌, ◌*◌, ◌<◌, ◌≤◌, Bool, cond, eqb, [], ◌∷◌, sum_by, arith, map-id}
use Rattle.std.specs.List.{range_with_len}
use Rattle.std.proofs.lemmas.Bool.{cases_eq}
use Rattle.std.proofs.lemmas.List.Sums.{sum_by-append}
use Rattle.sg_base.specs.Sums.{sum_below}
use Rattle.sg_base.specs.Sets.{chosen_below}
use Rattle.sg_base.proofs.SumLaws.{sum_below-add, sum_below-le, sum_below-same, sum_below-zero, sum_below_pick}
use Rattle.sg_base.proofs.Choosing.{chosen_below_more}
use Rattle.sg_base.proofs.Ranges.{sum_by-map_range}

-- the sum over a range is that over the numbers below its end
pub sum_by_range : (f : ℕ → ℕ) (n : ℕ) → sum_by f (range_with_len 0 n) ≡ sum_below f n
sum_by_range f n = ap (sum_by f) (sym (map-id (range_with_len 0 n))) ∙ sum_by-map_range f (λ (x : ℕ). x) n

-- the sum below 2m by the pairs of 2k and 2k + 1
pub sum_below_by_pairs : (f : ℕ → ℕ) (m : ℕ) → sum_below f (2 * m) ≡ sum_below (λ k. f (2 * k) + f (2 * k + 1)) m
sum_below_by_pairs f zero = refl
sum_below_by_pairs f (suc m) =
    let e : 2 * suc m ≡ suc (suc (2 * m)) = omega arith in
    let o : suc (2 * m) ≡ 2 * m + 1 = omega arith in
    ap (sum_below f) e ∙ ap (λ k. sum_below f (2 * m) + f (2 * m) + f k) o ∙ ap (λ s. s + f (2 * m) + f (2 * m + 1)) (sum_below_by_pairs f m) ∙ omega arith

-- the sum of f over the numbers below m, label by label
pub dealt_out : (f label : ℕ → ℕ) (labels m : ℕ) → ((k : ℕ) → k < m → label k < labels) →
    sum_below (λ c. sum_by f (chosen_below (λ k. eqb (label k) c) m)) labels ≡ sum_below f m
dealt_out f label labels zero low = sum_below-zero (λ c. sum_by f (chosen_below (λ k. eqb (label k) c) zero)) labels (λ c l. refl)
dealt_out f label labels (suc m) low =
    sum_below-same (λ c. sum_by f (chosen_below (λ k. eqb (label k) c) (suc m)))
    (λ c. sum_by f (chosen_below (λ k. eqb (label k) c) m) + cond (eqb (label m) c) (f m) 0) labels (λ c l. more (λ k. eqb (label k) c))
    ∙ sum_below-add (λ c. sum_by f (chosen_below (λ k. eqb (label k) c) m)) (λ c. cond (eqb (label m) c) (f m) 0) labels
    ∙ ap₂ {A = ℕ} (λ a b. a + b) (dealt_out f label labels m (λ k l. low k (omega arith))) (sum_below_pick (f m) (label m) labels (low m (omega arith)))
  where
    one : (b : Bool) (k : ℕ) → sum_by f (cond b (k ∷ []) []) ≡ cond b (f k) 0
    one b k = grind arith

    more : (p : ℕ → Bool) → sum_by f (chosen_below p (suc m)) ≡ sum_by f (chosen_below p m) + cond (p m) (f m) 0
    more p =
        let next : m + 1 ≡ suc m = omega arith in
        ap (λ n. sum_by f (chosen_below p n)) (sym next) ∙ ap (sum_by f) (chosen_below_more p m)
        ∙ sum_by-append f (chosen_below p m) (cond (p m) (m ∷ []) [])
        ∙ ap {A = ℕ} (λ a. sum_by f (chosen_below p m) + a) (one (p m) m)

-- where f is at most g everywhere and the sums are one, f is g
pub met_each : (f g : ℕ → ℕ) (n : ℕ) → ((k : ℕ) → k < n → f k ≤ g k) → sum_below f n ≡ sum_below g n → (k : ℕ) → k < n → f k ≡ g k
met_each f g zero le e k l = absurd (omega arith)
met_each f g (suc n) le e k l = grind (arith, cases_eq k n, met_each f g n, sum_below-le)
