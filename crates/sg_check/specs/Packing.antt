-- Packings of frustrated loops, and what they prove: weak duality for ground states.
use Rattle.std.specs.Prelude.{◌≡◌, ℕ, ◌*◌, ◌<◌, ◌≤◌, if◌then◌else◌, ℤ, pos, ◌+ℤ◌, ◌≤ℤ◌, List, length, All, sum_by, unsigned_abs}
use Rattle.sg_base.specs.Sets.{holds}
use Rattle.sg_model.specs.Energy.{energy, weight}
use Rattle.sg_model.specs.Ising.{Ising, bond_at, bond_count}
use Rattle.sg_model.specs.Spins.{IsAssignment}
use Rattle.sg_check.specs.declared.packing.Loop.{Loop}
use Rattle.sg_check.specs.Loop.{IsFrustratedLoop}

-- the weight of a loop, a natural number if it is at least 1
abbrev pub loop_weight : Loop → ℕ
loop_weight l = unsigned_abs l.y

-- the weights of the loops through bond k
abbrev pub load : List Loop → ℕ → ℕ
load loops k = sum_by (λ l. if holds l.bonds k then loop_weight l else 0) loops

-- the weights of all loops
abbrev pub packed_weight : List Loop → ℕ
packed_weight loops = sum_by loop_weight loops

-- the loops through bond k weigh at most twice the size of its coupling
abbrev pub IsWithin : Ising → List Loop → ℕ → Type 0
IsWithin inst loops k = load loops k ≤ 2 * unsigned_abs (bond_at inst k).j

-- frustrated loops of weight 1 or more that no bond carries too much of
pub record Packs (inst : Ising) (loops : List Loop) : Type 0 where
  pub positive : All (λ l. pos 1 ≤ℤ l.y) loops
  pub frustrated : All (λ l. IsFrustratedLoop inst l.bonds) loops
  pub within : (k : ℕ) → k < bond_count inst → IsWithin inst loops k

-- the spins have the energy, and the weights of a packing sum to the energy plus the weight of all bonds
pub record Proves (inst : Ising) (s : List ℤ) (e : ℤ) (loops : List Loop) : Type 0 where
  pub assignment : IsAssignment inst s
  pub stated : energy inst s ≡ e
  pub packs : Packs inst loops
  pub tight : pos (packed_weight loops) ≡ e +ℤ pos (weight inst)

-- a proof of few loops: at most five for each two bonds
abbrev pub IsShort : Ising → List Loop → Type 0
IsShort inst loops = 2 * length loops ≤ 5 * bond_count inst
