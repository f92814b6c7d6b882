-- A list gone round.
use Rattle.std.proofs.Common.{arith, ◌≡◌, ◌+◌, ◌%◌, ◌<◌, ℕ, zero, suc, ℤ, pos, List, ◌∷◌, length, ap, ◌∙◌, sym, refl, add-one, slice_index_or}
use Rattle.std.proofs.Math.Nat.{add-mod_left, mod-eq_of_lt}
use Rattle.std.proofs.lemmas.List.{get_or_default}
use Rattle.sg_laws.specs.Stream.{round}

-- there are as many draws as are asked for
pub round_length : (draws : List ℤ) (place count : ℕ) → length (round draws place count) ≡ count
round_length draws place zero = refl
round_length draws place (suc count) = ap suc (round_length draws (place + 1) count)

-- once round leads to the same draws
pub once_round : (draws : List ℤ) (k count : ℕ) → round draws (length draws + k) count ≡ round draws k count
once_round draws k zero = refl
once_round draws k (suc count) =
    ap (λ r. slice_index_or draws r (pos 0) ∷ round draws ((length draws + k + 1)) count) (add-mod_left (length draws) k)
    ∙ ap (λ p. slice_index_or draws (k % length draws) (pos 0) ∷ round draws p count) (let e : length draws + k + 1 ≡ length draws + (k + 1) = omega arith in e)
    ∙ ap (λ xs. slice_index_or draws (k % length draws) (pos 0) ∷ xs) (once_round draws (k + 1) count)

-- the first draw, and the draws after it
pub round_next : (draws : List ℤ) (place count : ℕ) → place < length draws
    → round draws place (count + 1) ≡ slice_index_or draws place (pos 0) ∷ round draws (place + 1) count
round_next draws place count low =
    rw (add-one count) ((ap (λ r. slice_index_or draws r (pos 0) ∷ round draws (place + 1) count) (mod-eq_of_lt low)))

-- behind the last place comes the first
pub round_wrapped : (draws : List ℤ) (place count : ℕ) → length draws ≡ place + 1 → round draws (place + 1) count ≡ round draws 0 count
round_wrapped draws place count e =
    ap (λ p. round draws p count) (let f : place + 1 ≡ length draws + 0 = omega (arith, e) in f) ∙ once_round draws 0 count

-- a draw that was read, and the draws from the place behind it, however that place is written
pub round_read : (draws : List ℤ) (place next : ℕ) (x y : ℤ) → place < length draws → x ≡ slice_index_or draws place x → y ≡ x
    → ((c : ℕ) → round draws (place + 1) c ≡ round draws next c) → (n : ℕ) → round draws place (n + 1) ≡ y ∷ round draws next n
round_read draws place next x y low read same behind n =
    round_next draws place n low
    ∙ ap (λ z. z ∷ round draws (place + 1) n) (get_or_default draws place (pos 0) x low ∙ sym read ∙ sym same)
    ∙ ap (λ xs. y ∷ xs) (behind n)
