-- Signs by turns.
use Rattle.std.proofs.Common.{arith, ◌≡◌, ◌≢◌, ◌+◌, ◌%◌, ◌==◌, ℕ, zero, suc, pos, negsuc, ◌∷◌, length, ap, ◌∙◌, refl, add-one, if◌then◌else◌}
use Rattle.sg_laws.specs.Stream.{alternating, sign_of}

-- there are as many signs as are asked for
pub alternating_length : (s count : ℕ) → length (alternating s count) ≡ count
alternating_length s zero = refl
alternating_length s (suc count) = ap suc (alternating_length (s + 1) count)

-- numbers of one parity have one sign
same_sign : (a b : ℕ) → a % 2 ≡ b % 2 → sign_of a ≡ sign_of b
same_sign a b e = ap (λ r. if r == 0 then pos 1 else negsuc 0) e

-- signs by turns depend on the parity of the first number alone
pub same_alternating : (a b count : ℕ) → a % 2 ≡ b % 2 → alternating a count ≡ alternating b count
same_alternating a b zero e = refl
same_alternating a b (suc count) e =
    ap (λ x. x ∷ alternating (a + 1) count) (same_sign a b e)
    ∙ ap (λ xs. sign_of b ∷ xs) (same_alternating (a + 1) (b + 1) count (let f : (a + 1) % 2 ≡ (b + 1) % 2 = grind (arith, e) in f))

-- the signs depend on whether the first number is odd alone
pub alternating_parity : (s count : ℕ) → alternating (s % 2) count ≡ alternating s count
alternating_parity s count = same_alternating (s % 2) s count (let f : (s % 2) % 2 ≡ s % 2 = grind arith in f)

-- the first sign, and the signs after it
pub alternating_next : (s count : ℕ) → alternating s (count + 1) ≡ sign_of s ∷ alternating (s + 1) count
alternating_next s count = rw (add-one count) refl

-- behind an even number the signs go on as from 1, behind an odd one as from 0
pub alternating_even : (s count : ℕ) → s % 2 ≡ 0 → alternating s (count + 1) ≡ pos 1 ∷ alternating 1 count
alternating_even s count e =
    alternating_next s count ∙ ap (λ x. x ∷ alternating (s + 1) count) (same_sign s 0 e)
    ∙ ap (λ xs. pos 1 ∷ xs) (same_alternating (s + 1) 1 count (let f : (s + 1) % 2 ≡ 1 % 2 = grind (arith, e) in f))

-- from an odd number on the first sign is -1
pub alternating_odd : (s count : ℕ) → s % 2 ≢ 0 → alternating s (count + 1) ≡ negsuc 0 ∷ alternating 0 count
alternating_odd s count e =
    alternating_next s count ∙ ap (λ x. x ∷ alternating (s + 1) count) (same_sign s 1 (let f : s % 2 ≡ 1 % 2 = grind (arith, e) in f))
    ∙ ap (λ xs. negsuc 0 ∷ xs) (same_alternating (s + 1) 0 count (let f : (s + 1) % 2 ≡ 0 % 2 = grind (arith, e) in f))
