-- Assignments: one value, up or down, for each spin.
use Rattle.std.specs.Prelude.{◌≡◌, ℕ, ◌⊎◌, ℤ, pos, negsuc, List, length, slice_index_or, All}
use Rattle.sg_model.specs.Ising.{Ising}

-- up is 1 and down is -1
abbrev pub IsUpOrDown : ℤ → Type 0
IsUpOrDown x = (x ≡ pos 1) ⊎ (x ≡ negsuc 0)

-- an assignment of the instance: a value for each of its spins
pub record IsAssignment (inst : Ising) (s : List ℤ) : Type 0 where
  pub count : length s ≡ inst.n
  pub values : All IsUpOrDown s

-- the value of spin i
abbrev pub spin : List ℤ → ℕ → ℤ
spin s i = slice_index_or s i (pos 1)
