-- A sum over the members of a rising list, told over the numbers below a bound.
use Rattle.std.proofs.Common.{◌≡◌, ℕ, ◌+◌, ◌<◌, Bool, true, false, cond, ◌||◌, eqb, List, [], ◌∷◌, refl, arith, sum_by, All, eqb-true}
use Rattle.std.specs.List.Sorted.{IsStrictlyIncreasing}
use Rattle.std.proofs.lemmas.List.Elements.{All-head, All-tail}
use Rattle.std.proofs.lemmas.List.Sums.{sum_by-cons}
use Rattle.sg_base.specs.Sums.{sum_below}
use Rattle.sg_base.specs.Sets.{holds}
use Rattle.sg_base.proofs.RisingLists.{holds_none_below, rises_over_first, rising_rest}
use Rattle.sg_base.proofs.SumLaws.{sum_below-add, sum_below-same, sum_below-zero, sum_below_pick}

one_of : (p q : Bool) (w : ℕ) → (p ≡ true → q ≡ false) → cond (p || q) w 0 ≡ cond p w 0 + cond q w 0
one_of p q w h = grind arith

-- a sum over the members of a rising list, as a sum over all numbers below a bound
pub members_sum : (f : ℕ → ℕ) (xs : List ℕ) (n : ℕ) → All (λ x. x < n) xs → IsStrictlyIncreasing xs → sum_below (λ x. cond (holds xs x) (f x) 0) n ≡ sum_by f xs
members_sum f [] n low up = sum_below-zero (λ x. 0) n (λ x l. refl)
members_sum f (s ∷ xs) n low up =
    let rest : sum_below (λ x. cond (holds xs x) (f x) 0) n ≡ sum_by f xs = members_sum f xs n (All-tail (λ x. x < n) s xs low) (rising_rest s xs up) in
    let first : sum_below (λ x. cond (eqb s x) (f s) 0) n ≡ f s = sum_below_pick (f s) s n (All-head (λ x. x < n) s xs low) in
    let parted : sum_below (λ x. cond (holds (s ∷ xs) x) (f x) 0) n ≡ sum_below (λ x. cond (eqb s x) (f s) 0 + cond (holds xs x) (f x) 0) n =
    grind (arith, sum_below-same, each) in
    omega (arith, sum_by-cons f s xs, sum_below-add (λ x. cond (eqb s x) (f s) 0) (λ x. cond (holds xs x) (f x) 0) n)
  where
    each : (x : ℕ) → cond (holds (s ∷ xs) x) (f x) 0 ≡ cond (eqb s x) (f s) 0 + cond (holds xs x) (f x) 0
    each x = grind (arith, one_of, holds_none_below, rises_over_first, eqb-true)
