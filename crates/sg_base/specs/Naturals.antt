-- Whole numbers as natural ones.
use Rattle.std.specs.Prelude.{ℕ, ℤ, pos, negsuc, ◌+◌, ◌-◌}

-- the natural number that a whole number is, 0 if it is negative
abbrev pub nat_of : ℤ → ℕ
nat_of (pos n) = n
nat_of (negsuc n) = 0

-- how far two numbers are apart
abbrev pub gap : ℕ → ℕ → ℕ
gap x y = (x - y) + (y - x)
