-- The spins of a code: they are up or down, each list of them has a code, and a loop writes them.
use Rattle.std.proofs.Common.{◌≡◌, ℕ, zero, suc, ◌+◌, ◌-◌, ◌*◌, ◌/◌, ◌%◌, ◌^◌, ◌<◌, inl, inr, ℤ, pos, negsuc, Bool, cond, eqb, List, [], ◌∷◌, ◌++◌, length, take, set, refl, sym, ap, ◌∙◌, append_assoc, arith, All}
use Rattle.std.proofs.Math.Nat.{pow-succ'}
use Rattle.std.proofs.lemmas.List.{take_more_set}
use Rattle.std.proofs.lemmas.List.Elements.{All-nil, All-cons, All-head, All-tail}
use Rattle.sg_model.specs.Spins.{IsUpOrDown}
use Rattle.sg_model.specs.Codes.{coded}

-- a code gives a value for each spin
pub coded-length : (n code : ℕ) → length (coded n code) ≡ n
coded-length zero code = refl
coded-length (suc n) code = ap suc (coded-length n (code / 2))

IsUpOrDown-cond : (b : Bool) → IsUpOrDown (cond b (pos 1) (negsuc 0))
IsUpOrDown-cond b = grind arith

-- each of them 1 or -1
pub coded-up_or_down : (n code : ℕ) → All IsUpOrDown (coded n code)
coded-up_or_down zero code = All-nil IsUpOrDown
coded-up_or_down (suc n) code = All-cons IsUpOrDown _ _ (IsUpOrDown-cond (eqb (code % 2) 0)) (coded-up_or_down n (code / 2))

-- an even code has the first spin up
pub coded-even : (n half : ℕ) → coded (suc n) (2 * half) ≡ pos 1 ∷ coded n half
coded-even n half = grind arith

coded-odd : (n half : ℕ) → coded (suc n) (2 * half + 1) ≡ negsuc 0 ∷ coded n half
coded-odd n half = grind arith

-- lists with the same head and the same tail are the same
pub same_cons : (x y : ℤ) (xs ys : List ℤ) → x ≡ y → xs ≡ ys → x ∷ xs ≡ y ∷ ys
same_cons x y xs ys p q = cc

-- each list of spin values has a code, and no bit beyond its length
pub coded-reaches : (s : List ℤ) → All IsUpOrDown s → (code : ℕ) × (code < 2 ^ length s) × (coded (length s) code ≡ s)
coded-reaches [] h = (0, omega arith, refl)
coded-reaches (x ∷ xs) h =
    let rest : (code : ℕ) × (code < 2 ^ length xs) × (coded (length xs) code ≡ xs) = coded-reaches xs (All-tail IsUpOrDown x xs h) in
    let size : 2 ^ suc (length xs) ≡ 2 * 2 ^ length xs = pow-succ' 2 (length xs) in
    elim (All-head IsUpOrDown x xs h) [
      | inl up ↦ (2 * rest.0, omega arith, coded-even (length xs) rest.0 ∙ same_cons (pos 1) x _ xs (sym up) rest.2)
      | inr down ↦ (2 * rest.0 + 1, omega arith, coded-odd (length xs) rest.0 ∙ same_cons (negsuc 0) x _ xs (sym down) rest.2)
    ]

-- one more value is written
pub written-more : (s all : List ℤ) (x : ℤ) (n i rest : ℕ) → length s ≡ n → i < n → x ≡ cond (eqb (rest % 2) 0) (pos 1) (negsuc 0) →
    take i s ++ coded (n - i) rest ≡ all → take (i + 1) (set s i x) ++ coded (n - (i + 1)) (rest / 2) ≡ all
written-more s all x n i rest count within bit written =
    let left : n - i ≡ suc (n - (i + 1)) = omega arith in
    let next : coded (n - i) rest ≡ cond (eqb (rest % 2) 0) (pos 1) (negsuc 0) ∷ coded (n - (i + 1)) (rest / 2) = ap (λ k. coded k rest) left in
    let front : take (i + 1) (set s i x) ≡ take i s ++ x ∷ [] = take_more_set s i x (omega arith) in
    rw (front, append_assoc) (ap (λ y. take i s ++ (y ∷ coded (n - (i + 1)) (rest / 2))) bit ∙ ap (λ ys. take i s ++ ys) (sym next) ∙ written)
