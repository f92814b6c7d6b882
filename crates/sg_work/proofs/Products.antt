-- Products that stop at a largest number.
use Rattle.std.proofs.Common.{ℕ, ◌*◌, ◌≡◌, ◌≤◌, arith, min}
use Rattle.std.proofs.lemmas.Nat.{mul-le}
use Rattle.std.proofs.Math.Nat.{min-le_left}

-- what stops at m is at most the product of what bounds its factors
pub capped : (a b x y m r : ℕ) → a ≤ x → b ≤ y → r ≡ min (a * b) m → r ≤ x * y
capped a b x y m r first second e = omega (arith, e, min-le_left (a * b) m, mul-le a b x y first second)
