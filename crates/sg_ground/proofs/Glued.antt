-- What some parts give, put together in the whole.
use Rattle.std.specs.Prelude.{◌≡◌, ℕ, ◌*◌, ◌≤◌, ℤ, pos, ◌+ℤ◌, ◌-ℤ◌, ◌≤ℤ◌, Bool, List, cond, length, sum_by, All, IsTrue, unsigned_abs}
use Rattle.sg_base.specs.Sets.{holds}
use Rattle.sg_model.specs.Ising.{Ising, bond_at}
use Rattle.sg_model.specs.Connected.{LeastsUp}
use Rattle.sg_model.specs.Broken.{is_broken}
use Rattle.sg_model.specs.Spins.{IsAssignment}
use Rattle.sg_check.specs.declared.packing.Loop.{Loop}
use Rattle.sg_check.specs.Loop.{IsFrustratedLoop}
use Rattle.sg_check.specs.Packing.{load, packed_weight}
use Rattle.sg_planar.specs.declared.components.Part.{Part}

-- the sum over the bonds of these parts
abbrev pub over_bonds : (ℕ → ℕ) → List Part → ℕ
over_bonds f parts = sum_by (λ p. sum_by f p.bonds) parts

-- the size of the coupling of bond k, and twice that where the spins break the bond
abbrev pub size_at : Ising → ℕ → ℕ
size_at inst k = unsigned_abs (bond_at inst k).j

abbrev pub cost_at : Ising → List ℤ → ℕ → ℕ
cost_at inst s k = cond (is_broken s (bond_at inst k)) (2 * size_at inst k) 0

-- spins of the whole, what their energy is as far as these parts give it, and loops over the bonds of these parts; no
-- spins cost these parts less, and the loops prove it if they are wanted
pub record IsGlued (inst : Ising) (with_loops : Bool) (parts : List Part) (s : List ℤ) (e : ℤ) (loops : List Loop) : Type 0 where
  pub assignment : IsAssignment inst s
  pub stated : e ≡ pos (over_bonds (cost_at inst s) parts) -ℤ pos (over_bonds (size_at inst) parts)
  pub size : unsigned_abs e ≤ over_bonds (size_at inst) parts
  pub least : (t : List ℤ) → IsAssignment inst t → over_bonds (cost_at inst s) parts ≤ over_bonds (cost_at inst t) parts
  pub leasts_up : LeastsUp inst s
  pub positive : All (λ l. pos 1 ≤ℤ l.y) loops
  pub frustrated : All (λ l. IsFrustratedLoop inst l.bonds) loops
  pub within : (k : ℕ) → load loops k ≤ sum_by (λ p. cond (holds p.bonds k) (2 * size_at inst k) 0) parts
  pub short : 2 * length loops ≤ 5 * over_bonds (λ _. 1) parts
  pub tight : IsTrue with_loops → pos (packed_weight loops) ≡ e +ℤ pos (over_bonds (size_at inst) parts)
