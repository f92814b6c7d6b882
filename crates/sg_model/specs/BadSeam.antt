-- The first fault of a seam.
use Rattle.std.specs.Prelude.{ℕ, Bool, nat_lt}
use Rattle.sg_model.specs.Ising.{Ising, bond_count}
use Rattle.sg_model.specs.Misplaced.{IsFirstMisplaced}

-- whether k is a bond of the instance
abbrev pub is_bond : Ising → ℕ → Bool
is_bond inst k = nat_lt k (bond_count inst)

-- the first entry of the seam that is not a bond, or repeats an earlier one
abbrev pub IsBadSeam : Ising → ℕ → Type 0
IsBadSeam inst bond = IsFirstMisplaced (is_bond inst) inst.seam bond
