-- Rigid clusters: spins that rigid bonds join.
use Rattle.std.specs.Prelude.{◌≡◌, ◌↔◌, ℕ, ◌<◌, ◌≤◌, Bool, true, List, length, slice_index}
use Rattle.sg_model.specs.Ising.{Ising, bond_count}
use Rattle.sg_model.specs.Connected.{Reached}
use Rattle.sg_bonds.specs.Cost.{IsRigid}

-- the set has, of the bonds, those that are rigid
abbrev pub HasRigid : Ising → (ℕ → Bool) → Type 0
HasRigid inst set = (b : ℕ) → b < bond_count inst → (set b ≡ true) ↔ IsRigid inst b

-- k is the least spin that is reached from spin i over rigid bonds
pub record IsCluster (inst : Ising) (i k : ℕ) : Type 0 where
  pub set : ℕ → Bool
  pub rigid : HasRigid inst set
  pub reached : Reached inst set i k
  pub least : (j : ℕ) → Reached inst set i j → k ≤ j

-- the least spin of its cluster for each spin
pub record AreClusters (inst : Ising) (names : List ℕ) : Type 0 where
  pub count : length names ≡ inst.n
  pub each : (i : ℕ) → i < inst.n → IsCluster inst i (slice_index names i)
