-- Lists of edges without repeats: they weigh no more than all edges.
use Rattle.std.proofs.Common.{◌≡◌, ◌≢◌, ℕ, zero, suc, ◌+◌, ◌<◌, ◌≤◌, Bool, true, false, cond, ◌||◌, eqb, eq-eqb, List, [], ◌∷◌, refl, arith, All, get_or, length, pos, sum_by}
use Rattle.std.specs.List.{AllPairs}
use Rattle.std.specs.List.Sorted.{IsStrictlyIncreasing}
use Rattle.std.proofs.lemmas.Bool.{false_from_ne_true}
use Rattle.std.proofs.lemmas.List.Elements.{All-head, All-tail}
use Rattle.std.proofs.lemmas.List.Kept.{AllPairs-from_increasing}
use Rattle.std.proofs.lemmas.List.Sums.{sum_by-cons}
use Rattle.sg_base.specs.Sets.{holds}
use Rattle.sg_base.specs.Sums.{sum_below}
use Rattle.sg_base.proofs.RisingLists.{Contains-holds}
use Rattle.sg_base.proofs.SumLaws.{sum_below-gain, sum_below-le, sum_by_is_sum_below}
use Rattle.sg_graph.specs.Web.{Graph, edge_count, edge_weight, total_weight, weight_at, weight_of}

once_rest : (x : ℕ) (xs : List ℕ) → AllPairs (λ e f. e ≢ f) (x ∷ xs) → AllPairs (λ e f. e ≢ f) xs
once_rest x xs once i j d l m = once (suc i) (suc j) d (omega arith) (omega arith)

-- the first entry does not come again
first_alone : (x : ℕ) (xs : List ℕ) → AllPairs (λ e f. e ≢ f) (x ∷ xs) → holds xs x ≡ false
first_alone x xs once = false_from_ne_true (holds xs x) (λ h. (let at = Contains-holds xs x h in once 0 (suc at.0) x (omega arith)
    (let low = at.1 in omega arith) (let same : get_or xs at.0 x ≡ x = at.2 in cc)))

-- a list without repeats weighs at most as much as its members, each taken once
pub once_weight : (w : ℕ → ℕ) (n : ℕ) (xs : List ℕ) → All (λ x. x < n) xs → AllPairs (λ e f. e ≢ f) xs
    → sum_by w xs ≤ sum_below (λ e. cond (holds xs e) (w e) 0) n
once_weight w n [] low once = omega arith
once_weight w n (x ∷ xs) low once =
    let rest : sum_by w xs ≤ sum_below (λ e. cond (holds xs e) (w e) 0) n = once_weight w n xs (All-tail (λ x. x < n) x xs low) (once_rest x xs once) in
    let more : sum_below (λ e. cond (holds xs e) (w e) 0) n + w x ≤ sum_below (λ e. cond (eqb x e || holds xs e) (w e) 0) n =
    sum_below-gain (λ e. cond (holds xs e) (w e) 0) (λ e. cond (eqb x e || holds xs e) (w e) 0) (w x) x n (All-head (λ x. x < n) x xs low)
    (λ e l. kept (eqb x e) (holds xs e) (w e)) (new (eqb x x) (holds xs x) (eq-eqb x x refl) (first_alone x xs once)) in
    omega (arith, sum_by-cons w x xs)
  where
    kept : (a b : Bool) (v : ℕ) → cond b v 0 ≤ cond (a || b) v 0
    kept a b v = grind arith

    new : (a b : Bool) → a ≡ true → b ≡ false → cond b (w x) 0 + w x ≤ cond (a || b) (w x) 0
    new a b here fresh = grind arith

module _ (g : Graph) where
  -- edges without repeats weigh at most as much as all edges
  pub once_light : (es : List ℕ) → All (λ e. e < edge_count g) es → AllPairs (λ e f. e ≢ f) es → weight_of g es ≤ total_weight g
  once_light es low once =
      omega (
        arith,
        once_weight (edge_weight g) (edge_count g) es low once,
        sum_below-le (λ e. cond (holds es e) (edge_weight g e) 0) (edge_weight g) (edge_count g) (λ e l. part (holds es e) (edge_weight g e)),
        sum_by_is_sum_below weight_at g.edges (record { a = 0; b = 0; w = pos 0 }),
      )
    where
      part : (b : Bool) (v : ℕ) → cond b v 0 ≤ v
      part b v = grind arith

  -- a rising list of edges weighs at most as much as all edges
  pub rising_light : (es : List ℕ) → All (λ e. e < edge_count g) es → IsStrictlyIncreasing es → weight_of g es ≤ total_weight g
  rising_light es low up = once_light es low (λ i j d l m. apart (get_or es i d) (get_or es j d) (AllPairs-from_increasing es up i j d l m))
    where
      apart : (e f : ℕ) → e < f → e ≢ f
      apart e f lt same = omega arith

-- a rising list of numbers below n has at most n entries
pub rising_few : (n : ℕ) (xs : List ℕ) → All (λ x. x < n) xs → IsStrictlyIncreasing xs → length xs ≤ n
rising_few n [] low up = omega arith
rising_few n (x ∷ xs) low up = (let last = at_least (length xs) (omega arith) in omega (arith, low (length xs) 0 (omega arith)))
  where
    at_least : (i : ℕ) → i < length (x ∷ xs) → i ≤ get_or (x ∷ xs) i 0
    at_least zero l = omega arith
    at_least (suc i) l = grind (arith, at_least i)
