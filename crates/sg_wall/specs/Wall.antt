-- Domain walls: how the least energy changes if the signs of the seam change.
use Rattle.std.specs.Prelude.{◌≡◌, ◌⊎◌, ℕ, ℤ, ◌-ℤ◌}
use Rattle.sg_model.specs.Ising.{Ising}
use Rattle.sg_model.specs.Energy.{IsLeastEnergy}
use Rattle.sg_model.specs.Changes.{with_seam_flipped}
use Rattle.sg_ground.specs.Allowance.{TablesExceed}

-- the least energy, the least energy with the signs of the seam's couplings changed and nothing else,
-- and the second minus the first
pub record IsWall (inst : Ising) (periodic antiperiodic difference : ℤ) : Type 0 where
  pub least : IsLeastEnergy inst periodic
  pub least_flipped : IsLeastEnergy (with_seam_flipped inst) antiperiodic
  pub gain : difference ≡ antiperiodic -ℤ periodic

-- under one of the two boundaries the tables of the matching fallback take more bytes than that
abbrev pub WallTablesExceed : ℕ → Ising → Type 0
WallTablesExceed most inst = TablesExceed most inst ⊎ TablesExceed most (with_seam_flipped inst)
