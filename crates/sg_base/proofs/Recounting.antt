-- Parities counted in another way: by the places of a list, by counts, in pairs, and in another order; and what holds
-- over a range.
use Rattle.std.proofs.Common.{subst, ap₂, ◌≡◌, ℕ, zero, suc, ◌+◌, ◌*◌, ◌<◌, Bool, false, cond, ◌&&◌, eqb, List, [], ◌∷◌, refl, sym, ◌∙◌, ap, arith, All, length, get_or}
use Rattle.std.specs.List.{range_with_len}
use Rattle.std.specs.List.Sorted.{IsPermutation}
use Rattle.std.proofs.lemmas.List.Elements.{All-head, All-tail}
use Rattle.std.proofs.lemmas.List.FromFn.{length-range_with_len, get_or-range_with_len}
use Rattle.std.proofs.lemmas.List.Sorted.{sum_by-IsPermutation}
use Rattle.sg_base.specs.Parity.{xor, odd, parity_by, parity_below}
use Rattle.sg_base.proofs.ParityLaws.{and-xor, and-false, odd-count_by, parity_below-none, parity_below-same, parity_below-xor, parity_below_pick}

turned : (x y z : Bool) → xor x (xor y z) ≡ xor y (xor x z)
turned x y z = grind arith

-- what holds of each number below n holds of each element of the range, and back
pub All_range : (P : ℕ → Type 0) (n : ℕ) → ((k : ℕ) → k < n → P k) → All P (range_with_len 0 n)
All_range P n h k d l = grind (arith, length-range_with_len, get_or-range_with_len)

-- what holds of all of a range from 0 holds of each number below its length
pub All_range_at : (P : ℕ → Type 0) (n : ℕ) → All P (range_with_len 0 n) → (k : ℕ) → k < n → P k
All_range_at P n h k l =
    let e : get_or (range_with_len 0 n) k 0 ≡ k = get_or-range_with_len 0 n k 0 l ∙ omega arith in
    subst P e (h k 0 (omega (arith, length-range_with_len 0 n)))

-- the parity with its first number taken out
pub parity_below_first : (g : ℕ → Bool) (n : ℕ) → parity_below g (suc n) ≡ xor (g 0) (parity_below (λ i. g (suc i)) n)
parity_below_first g zero = refl
parity_below_first g (suc n) = ap (xor (g (suc n))) (parity_below_first g n) ∙ turned (g (suc n)) (g 0) (parity_below (λ i. g (suc i)) n)

-- the parity over a list by its places
pub parity_by_index : (p : ℕ → Bool) (xs : List ℕ) → parity_by p xs ≡ parity_below (λ i. p (get_or xs i 0)) (length xs)
parity_by_index p [] = refl
parity_by_index p (x ∷ xs) = ap (xor (p x)) (parity_by_index p xs) ∙ sym (parity_below_first (λ i. p (get_or (x ∷ xs) i 0)) (length xs))

-- the parity over a list by how often each number stands there
pub parity_by_counts : (g : ℕ → Bool) (n : ℕ) (xs : List ℕ) → All (λ x. x < n) xs →
    parity_by g xs ≡ parity_below (λ d. g d && parity_by (λ x. eqb x d) xs) n
parity_by_counts g n [] h = sym (parity_below-none (λ d. g d && false) n (λ d l. and-false (g d)))
parity_by_counts g n (x ∷ xs) h =
    ap₂ xor (sym (parity_below_pick g x n (All-head (λ x. x < n) x xs h))) (parity_by_counts g n xs (All-tail (λ x. x < n) x xs h))
    ∙ sym (parity_below-xor (λ d. g d && eqb x d) (λ d. g d && parity_by (λ x. eqb x d) xs) n)
    ∙ parity_below-same (λ d. xor (g d && eqb x d) (g d && parity_by (λ x. eqb x d) xs)) (λ d. g d && xor (eqb x d) (parity_by (λ x. eqb x d) xs)) n
    (λ d l. sym (and-xor (g d) (eqb x d) (parity_by (λ x. eqb x d) xs)))

-- the parity below 2m by the pairs of 2k and 2k + 1
pub parity_below_by_pairs : (g : ℕ → Bool) (m : ℕ) → parity_below g (2 * m) ≡ parity_below (λ k. xor (g (2 * k)) (g (2 * k + 1))) m
parity_below_by_pairs g zero = refl
parity_below_by_pairs g (suc m) =
    let e : 2 * suc m ≡ suc (suc (2 * m)) = omega arith in
    let o : suc (2 * m) ≡ 2 * m + 1 = omega arith in
    ap (parity_below g) e ∙ ap (λ k. xor (g k) (xor (g (2 * m)) (parity_below g (2 * m)))) o
    ∙ joined (g (2 * m + 1)) (g (2 * m)) (parity_below g (2 * m))
    ∙ ap (xor (xor (g (2 * m)) (g (2 * m + 1)))) (parity_below_by_pairs g m)
  where
    joined : (x y z : Bool) → xor x (xor y z) ≡ xor (xor y x) z
    joined x y z = grind arith

-- the parity over a list in another order
pub parity_by-permutation : {X : Type 0} (p : X → Bool) (xs ys : List X) → IsPermutation xs ys → parity_by p xs ≡ parity_by p ys
parity_by-permutation p xs ys h =
    sym (odd-count_by p xs) ∙ ap odd (sym (sum_by-IsPermutation (λ x. cond (p x) 1 0) xs ys h)) ∙ odd-count_by p ys
