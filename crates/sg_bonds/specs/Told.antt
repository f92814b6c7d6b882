-- What is told of the bonds while the rigid ones are looked for.
use Rattle.std.specs.Prelude.{◌≡◌, ℕ, ◌<◌, pos, ⊤, List, length, slice_index_or}
use Rattle.sg_model.specs.Ising.{Ising, bond_count}
use Rattle.sg_bonds.specs.Cost.{IsCost, IsRigid}
use Rattle.sg_bonds.specs.declared.telling.Told.{Told}
use Rattle.sg_bonds.specs.declared.telling.Told.TheVariants.{Free, Rigid, Unknown}

-- what is told of bond k is true; a free bond costs 0
abbrev pub IsTold : Ising → ℕ → Told → Type 0
IsTold inst k Rigid = IsRigid inst k
IsTold inst k Free = IsCost inst k (pos 0)
IsTold inst k Unknown = ⊤

-- what is told of bond k
abbrev pub told_at : List Told → ℕ → Told
told_at told k = slice_index_or told k Unknown

-- what is told of each bond is true
pub record AreTold (inst : Ising) (told : List Told) : Type 0 where
  pub count : length told ≡ bond_count inst
  pub each : (k : ℕ) → k < bond_count inst → IsTold inst k (told_at told k)
