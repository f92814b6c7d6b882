-- Parity: what is left of a count where an even number counts for nothing.
use Rattle.std.specs.Prelude.{ℕ, zero, suc, Bool, true, false, not, List, [], ◌∷◌}

-- one or the other, and not both
abbrev pub xor : Bool → Bool → Bool
xor true b = not b
xor false b = b

-- whether n is odd
abbrev pub odd : ℕ → Bool
odd zero = false
odd (suc n) = not (odd n)

-- whether an odd number of the elements pass
abbrev pub parity_by : {X : Type 0} → (X → Bool) → List X → Bool
parity_by p [] = false
parity_by p (x ∷ xs) = xor (p x) (parity_by p xs)

-- whether an odd number of the numbers below n pass
abbrev pub parity_below : (ℕ → Bool) → ℕ → Bool
parity_below p zero = false
parity_below p (suc n) = xor (p n) (parity_below p n)
