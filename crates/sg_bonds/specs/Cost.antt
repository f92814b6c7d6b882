-- What it costs to break a bond, or to mend it: the difference of the least energies with the two products
-- of its spins.
use Rattle.std.specs.Prelude.{◌≡◌, ℕ, ◌<◌, ℤ, pos, negsuc, ◌-ℤ◌, ◌<ℤ◌, ◌≤ℤ◌, List, length, slice_index_or, unsigned_abs}
use Rattle.sg_model.specs.Ising.{Ising, bond_at, bond_count}
use Rattle.sg_model.specs.Spins.{IsAssignment}
use Rattle.sg_model.specs.Energy.{energy, product}

-- the least energy among the assignments with product p at bond k: one of them has it, and none has less
pub record IsLeastWith (inst : Ising) (k : ℕ) (p e : ℤ) : Type 0 where
  pub reached : (s : List ℤ) × IsAssignment inst s × (product s (bond_at inst k) ≡ p) × (energy inst s ≡ e)
  pub least : (s : List ℤ) → IsAssignment inst s → product s (bond_at inst k) ≡ p → e ≤ℤ energy inst s

-- the cost of bond k: the difference of the least energies with equal and with opposite spins
pub record IsCost (inst : Ising) (k : ℕ) (c : ℤ) : Type 0 where
  pub like : ℤ
  pub unlike : ℤ
  pub least_like : IsLeastWith inst k (pos 1) like
  pub least_unlike : IsLeastWith inst k (negsuc 0) unlike
  pub apart : c ≡ pos (unsigned_abs (unlike -ℤ like))

-- a cost for each bond
pub record AreCosts (inst : Ising) (costs : List ℤ) : Type 0 where
  pub count : length costs ≡ bond_count inst
  pub each : (k : ℕ) → k < bond_count inst → IsCost inst k (slice_index_or costs k (pos 0))

-- a rigid bond costs more than 0
abbrev pub IsRigid : Ising → ℕ → Type 0
IsRigid inst k = (c : ℤ) × IsCost inst k c × (pos 0 <ℤ c)
