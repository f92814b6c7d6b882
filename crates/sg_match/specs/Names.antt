-- Lists of names.
use Rattle.std.specs.Prelude.{◌≡◌, ◌≢◌, ℕ, ◌+◌, List, length, Contains}
use Rattle.sg_base.specs.Sets.{Differ}

-- a list without one of its entries, in any order
pub record IsTaken (old new : List ℕ) (name : ℕ) : Type 0 where
  pub within : (n : ℕ) → Contains new n → Contains old n
  pub rest : (n : ℕ) → Contains old n → n ≢ name → Contains new n
  pub count : Contains old name → length new + 1 ≡ length old
  pub gone : Differ old → Contains new name → ⊥
  pub differ : Differ old → Differ new
