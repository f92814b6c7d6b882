use Rattle.sg_bonds.proofs.Common.{◌≡◌, ◌≢◌, inl, inr, ℕ, ◌+◌, ◌*◌, ◌/◌, ◌%◌, ◌≤◌, arith, cases_lt}
use Rattle.std.proofs.Math.Nat.{mul-le-mul_left}
use Rattle.sg_bonds.proofs.deciding.units.Goals as goal

spread : (s m : ℕ) → s * (m + 1) ≡ s * m + s
spread s m = grind arith

-- a quotient is the least number where nothing is left
exact : (a s m : ℕ) → 1 ≤ s → a ≤ s * m → a / s ≤ m
exact a s m some l = elim (cases_lt m (a / s)) [
  | inl less ↦ (let more : s * (m + 1) ≤ s * (a / s) = mul-le-mul_left s (omega (arith, less)) in absurd (omega (arith, more, spread s m, l, some)))
  | inr all ↦ all
]

-- and one less than it where something is
over : (a s m : ℕ) → 1 ≤ s → a ≤ s * m → a % s ≢ 0 → a / s + 1 ≤ m
over a s m some l left = elim (cases_lt (a / s) m) [
  | inl less ↦ omega (arith, less)
  | inr all ↦ (let more : s * m ≤ s * (a / s) = mul-le-mul_left s all in absurd (left (omega (arith, more, l, some))))
]

pub returns-then-amount-scale-eq0-clause-least : goal.returns-then-amount-scale-eq0-clause-least
returns-then-amount-scale-eq0-clause-least c = λ m l. exact c.args.amount c.args.scale m c.requires l

pub returns-else-amount-scale-eq0-clause-least : goal.returns-else-amount-scale-eq0-clause-least
returns-else-amount-scale-eq0-clause-least c = λ m l. over c.args.amount c.args.scale m c.requires l c.if-amount-scale-eq0.false
