-- Euler's number of a rotation system: 2 if each component is drawn on a sphere, and less for others.
use Rattle.std.specs.Prelude.{◌≡◌, ℕ, ◌+◌, ◌-◌, ◌*◌, ℤ, pos, ◌-ℤ◌, List, length}
use Rattle.sg_model.specs.Ising.{Ising, bond_count}
use Rattle.sg_model.specs.Connected.{AreLeasts}
use Rattle.sg_faces.specs.Faces.{face_count}

-- spins minus bonds plus faces, less two for each component but one: the face between two drawings on one sphere is
-- one face, and is counted for both
abbrev pub euler : Ising → ℕ → ℤ
euler inst components = pos (inst.n + face_count inst) -ℤ pos (bond_count inst + 2 * (components - 1))

-- Euler's number of an instance, by the number of its components
pub record IsEuler (inst : Ising) (e : ℤ) : Type 0 where
  pub leasts : List ℕ
  pub components : AreLeasts inst leasts
  pub value : e ≡ euler inst (length leasts)
