-- The parts of an instance: its components, each as an instance of its own.
use Rattle.std.specs.Prelude.{◌≡◌, ◌↔◌, ℕ, ◌+◌, ◌*◌, ◌/◌, ◌%◌, ◌<◌, ◌==◌, true, if◌then◌else◌}
use Rattle.std.specs.Prelude.{List, [], length, map, sum_by}
use Rattle.std.specs.List.{AllZip, position_or_len}
use Rattle.std.specs.List.Sorted.{IsStrictlyIncreasing}
use Rattle.sg_base.specs.Sets.{holds}
use Rattle.sg_model.specs.declared.bond.Bond.{Bond}
use Rattle.sg_model.specs.Ising.{Ising, bond_at, bond_count}
use Rattle.sg_model.specs.Rotation.{darts_of}
use Rattle.sg_model.specs.Connected.{AreLeasts, IsConnected, Reached, all_bonds}
use Rattle.sg_planar.specs.declared.components.Division.{Division}
use Rattle.sg_planar.specs.declared.components.Division.TheVariants.{Whole, Several}
use Rattle.sg_planar.specs.declared.components.Part.{Part}
use Rattle.sg_planar.specs.Fit.{IsPlanar}

-- the place of a number in a list
abbrev pub place_in : List ℕ → ℕ → ℕ
place_in xs x = position_or_len (λ y. y == x) xs

-- the dart of the part that is dart d of the whole
abbrev pub dart_in : List ℕ → ℕ → ℕ
dart_in bonds d = 2 * place_in bonds (d / 2) + d % 2

-- a bond between the places of its ends
abbrev pub bond_in : List ℕ → Bond → Bond
bond_in spins b = record { u = place_in spins b.u; v = place_in spins b.v; j = b.j }

-- the spins and bonds numbered by their places, each list of darts in its old cyclic order, with an empty seam
abbrev pub restricted : Ising → List ℕ → List ℕ → Ising
restricted inst spins bonds = record {
  n = length spins;
  bonds = map (λ k. bond_in spins (bond_at inst k)) bonds;
  rotation = map (λ i. map (dart_in bonds) (darts_of inst i)) spins;
  seam = [];
}

-- the component of spin `least`: what that spin reaches, the bonds between these spins, and an instance of its own
pub record IsPart (inst : Ising) (least : ℕ) (part : Part) : Type 0 where
  pub spins_rise : IsStrictlyIncreasing part.spins
  pub spins : (x : ℕ) → (holds part.spins x ≡ true) ↔ ((x < inst.n) × Reached inst all_bonds least x)
  pub bonds_rise : IsStrictlyIncreasing part.bonds
  pub bonds : (k : ℕ) → (holds part.bonds k ≡ true) ↔
      ((k < bond_count inst) × (holds part.spins (bond_at inst k).u ≡ true))
  pub instance : part.planar.instance ≡ restricted inst part.spins part.bonds
  pub connected : IsConnected part.planar.instance
  pub planar : IsPlanar part.planar

-- 1 if the list holds the number, and else 0
abbrev pub times_in : List ℕ → ℕ → ℕ
times_in xs x = if holds xs x then 1 else 0

-- a part for each component, in the order of the least spins; each spin and each bond is in exactly one part
pub record AreParts (inst : Ising) (parts : List Part) : Type 0 where
  pub leasts : List ℕ
  pub components : AreLeasts inst leasts
  pub each : AllZip (IsPart inst) leasts parts
  pub spins_once : (x : ℕ) → x < inst.n → sum_by (λ p. times_in p.spins x) parts ≡ 1
  pub bonds_once : (k : ℕ) → k < bond_count inst → sum_by (λ p. times_in p.bonds k) parts ≡ 1

-- one component, which is the whole itself, or a part for each
abbrev pub IsDivision : Ising → Division → Type 0
IsDivision inst Whole = IsConnected inst
IsDivision inst (Several parts) = AreParts inst parts
