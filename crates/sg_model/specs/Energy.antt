-- Energies, and the assignments that have the least.
use Rattle.std.specs.Prelude.{◌≡◌, ℕ, ℤ, pos, neg_ℤ, ◌+ℤ◌, ◌*ℤ◌, ◌≤ℤ◌, List, fold, sum_by, unsigned_abs}
use Rattle.sg_model.specs.declared.bond.Bond.{Bond}
use Rattle.sg_model.specs.Ising.{Ising}
use Rattle.sg_model.specs.Spins.{IsAssignment, spin}

-- the product of the two spins of a bond
abbrev pub product : List ℤ → Bond → ℤ
product s b = spin s b.u *ℤ spin s b.v

-- minus the sum over the bonds of the coupling times the product of the two spins
abbrev pub energy : Ising → List ℤ → ℤ
energy inst s = neg_ℤ (fold (λ total b. total +ℤ (b.j *ℤ product s b)) (pos 0) inst.bonds)

-- the sum of the couplings' sizes
abbrev pub weight : Ising → ℕ
weight inst = sum_by (λ b. unsigned_abs b.j) inst.bonds

-- a ground state: no assignment has less energy
pub record IsGroundState (inst : Ising) (s : List ℤ) : Type 0 where
  pub assignment : IsAssignment inst s
  pub least : (t : List ℤ) → IsAssignment inst t → energy inst s ≤ℤ energy inst t

-- the least energy: some assignment has it, and none has less
pub record IsLeastEnergy (inst : Ising) (e : ℤ) : Type 0 where
  pub reached : (s : List ℤ) × IsAssignment inst s × (energy inst s ≡ e)
  pub least : (t : List ℤ) → IsAssignment inst t → e ≤ℤ energy inst t
