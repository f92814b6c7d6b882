-- The laws of sums: over the numbers below n, over a list by its places, and two sums exchanged.
use Rattle.std.proofs.Common.{take, get_or, ◌≡◌, ℕ, zero, suc, ◌+◌, ◌<◌, ◌≤◌, cond, eqb, List, [], ◌∷◌, refl, sym, ◌∙◌, ap, arith, sum_by, All, length}
use Rattle.std.proofs.lemmas.List.Elements.{All-head, All-tail}
use Rattle.std.proofs.lemmas.List.{take_all}
use Rattle.std.proofs.lemmas.List.Sums.{sum_by-cons, sum_by_more}
use Rattle.std.proofs.lemmas.Bool.{eq-eqb, ne_eqb, cases_eq}
use Rattle.sg_base.specs.Sums.{sum_below}

-- a sum of sums is the sum of both sums
pub sum_below-add : (f g : ℕ → ℕ) (n : ℕ) → sum_below (λ k. f k + g k) n ≡ sum_below f n + sum_below g n
sum_below-add f g zero = refl
sum_below-add f g (suc n) = omega (arith, sum_below-add f g n)

-- a sum of zeros is 0
pub sum_below-zero : (f : ℕ → ℕ) (n : ℕ) → ((k : ℕ) → k < n → f k ≡ 0) → sum_below f n ≡ 0
sum_below-zero f zero h = refl
sum_below-zero f (suc n) h = omega (arith, sum_below-zero f n (λ k l. h k (omega arith)), h n (omega arith))

-- a sum grows with its terms
pub sum_below-le : (f g : ℕ → ℕ) (n : ℕ) → ((k : ℕ) → k < n → f k ≤ g k) → sum_below f n ≤ sum_below g n
sum_below-le f g zero h = omega arith
sum_below-le f g (suc n) h = omega (arith, sum_below-le f g n (λ k l. h k (omega arith)), h n (omega arith))

-- terms that agree below n have one sum
pub sum_below-same : (f g : ℕ → ℕ) (n : ℕ) → ((k : ℕ) → k < n → f k ≡ g k) → sum_below f n ≡ sum_below g n
sum_below-same f g zero h = refl
sum_below-same f g (suc n) h = omega (arith, sum_below-same f g n (λ k l. h k (omega arith)), h n (omega arith))

-- of the numbers below n, only u is u
pub sum_below_pick : (c : ℕ) (u n : ℕ) → u < n → sum_below (λ k. cond (eqb u k) c 0) n ≡ c
sum_below_pick c u zero h = absurd (omega arith)
sum_below_pick c u (suc n) h = grind (arith, cases_eq u n, sum_below_pick c u n, eq-eqb, sum_below-zero, ne_eqb)

module _ {X : Type 0} where
  -- a sum over a list grows with its terms
  pub sum_by-le-all : (f g : X → ℕ) (xs : List X) → All (λ x. f x ≤ g x) xs → sum_by f xs ≤ sum_by g xs
  sum_by-le-all f g [] h = omega arith
  sum_by-le-all f g (x ∷ xs) h =
      let e : f x ≤ g x = All-head (λ x. f x ≤ g x) x xs h in
      let r : sum_by f xs ≤ sum_by g xs = sum_by-le-all f g xs (All-tail (λ x. f x ≤ g x) x xs h) in
      omega (arith, sum_by-cons f x xs, sum_by-cons g x xs)

  -- terms that agree on a list have one sum
  pub sum_by-same : (f g : X → ℕ) (xs : List X) → All (λ x. f x ≡ g x) xs → sum_by f xs ≡ sum_by g xs
  sum_by-same f g [] h = refl
  sum_by-same f g (x ∷ xs) h =
      let e : f x ≡ g x = All-head (λ x. f x ≡ g x) x xs h in
      let r : sum_by f xs ≡ sum_by g xs = sum_by-same f g xs (All-tail (λ x. f x ≡ g x) x xs h) in
      omega (arith, sum_by-cons f x xs, sum_by-cons g x xs)

  -- the order of two sums is free
  pub sum_exchange : (f : X → ℕ → ℕ) (xs : List X) (n : ℕ) → sum_by (λ x. sum_below (f x) n) xs ≡ sum_below (λ k. sum_by (λ x. f x k) xs) n
  sum_exchange f [] n = sym (sum_below-zero (λ k. 0) n (λ k l. refl))
  sum_exchange f (x ∷ xs) n = simp (sum_exchange f xs n, sum_below-same, sum_by-cons, sum_below-add)

-- a single term is at most the sum
pub at-le-sum_below : (f : ℕ → ℕ) (k n : ℕ) → k < n → f k ≤ sum_below f n
at-le-sum_below f k zero h = absurd (omega arith)
at-le-sum_below f k (suc n) h = grind (arith, cases_eq k n, at-le-sum_below f k n)

-- the sum over the first elements of a list, by their places
pub sum_below-sum_by : {X : Type 0} (f : X → ℕ) (xs : List X) (d : X) (i : ℕ) → i ≤ length xs → sum_by f (take i xs) ≡ sum_below (λ k. f (get_or xs k d)) i
sum_below-sum_by f xs d zero h = refl
sum_below-sum_by f xs d (suc i) h =
    let r : sum_by f (take i xs) ≡ sum_below (λ k. f (get_or xs k d)) i = sum_below-sum_by f xs d i (omega arith) in
    let step : sum_by f (take (i + 1) xs) ≡ sum_by f (take i xs) + f (get_or xs i d) = sum_by_more f xs i d (omega arith) in
    let same : i + 1 ≡ suc i = omega arith in
    let step' : sum_by f (take (suc i) xs) ≡ sum_by f (take i xs) + f (get_or xs i d) = grind arith in
    omega arith

-- the sum over a whole list, by the places of its elements
pub sum_by_is_sum_below : {X : Type 0} (f : X → ℕ) (xs : List X) (d : X) → sum_by f xs ≡ sum_below (λ k. f (get_or xs k d)) (length xs)
sum_by_is_sum_below f xs d = ap (sum_by f) (sym (take_all (length xs) xs (omega arith))) ∙ sum_below-sum_by f xs d (length xs) (omega arith)

-- a sum that gains c at one place, and loses nowhere
pub sum_below-gain : (f g : ℕ → ℕ) (c u n : ℕ) → u < n → ((k : ℕ) → k < n → f k ≤ g k) → f u + c ≤ g u → sum_below f n + c ≤ sum_below g n
sum_below-gain f g c u zero l h more = absurd (omega arith)
sum_below-gain f g c u (suc n) l h more = grind (arith, cases_eq u n, sum_below-gain f g c u n, sum_below-le)

-- the same over a list
pub sum_by-gain : {X : Type 0} (f g : X → ℕ) (c : ℕ) (xs : List X) (u : ℕ) (d : X) → u < length xs → All (λ x. f x ≤ g x) xs →
    f (get_or xs u d) + c ≤ g (get_or xs u d) → sum_by f xs + c ≤ sum_by g xs
sum_by-gain f g c xs u d l h more =
    omega (
      arith,
      sum_by_is_sum_below f xs d,
      sum_by_is_sum_below g xs d,
      sum_below-gain (λ k. f (get_or xs k d)) (λ k. g (get_or xs k d)) c u (length xs) l (λ k q. h k d q) more,
    )
