-- What every instance keeps.
use Rattle.std.specs.Prelude.{◌≡◌, ◌^◌, ◌≤◌, length, All}
use Rattle.sg_model.specs.Ising.{Ising, IsBond, bond_count}
use Rattle.sg_model.specs.Rotation.{IsRotation}
use Rattle.sg_model.specs.Seam.{IsSeam}

-- one spin or more, bonds between different spins, neither beyond 2^24, and a list for each spin
pub record IsDraft (inst : Ising) : Type 0 where
  pub has_spin : 1 ≤ inst.n
  pub few_spins : inst.n ≤ 2 ^ 24
  pub few_bonds : bond_count inst ≤ 2 ^ 24
  pub joined : All (IsBond inst.n) inst.bonds
  pub lists : length inst.rotation ≡ inst.n

-- a draft whose lists are a rotation and whose seam is one
pub record IsInstance (inst : Ising) : Type 0 where
  pub draft : IsDraft inst
  pub rotation : IsRotation inst
  pub seam : IsSeam inst
