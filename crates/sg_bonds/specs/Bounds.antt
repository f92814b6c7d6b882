-- Bounds of the costs of bonds, and when one list of them is as good as another or better.
use Rattle.std.specs.Prelude.{◌≡◌, ◌≢◌, ◌⊎◌, ℕ, ◌<◌, ℤ, pos, negsuc, ◌≤ℤ◌, Bool, int_le, All, List, length, slice_index_or}
use Rattle.sg_model.specs.Ising.{Ising, bond_at, bond_count}
use Rattle.sg_model.specs.Connected.{Reached}
use Rattle.sg_model.specs.Changes.{with_coupling}
use Rattle.sg_ground.specs.Allowance.{TablesExceed}
use Rattle.sg_bonds.specs.Cost.{IsCost}
use Rattle.sg_bonds.specs.declared.bounds.Bound.{Bound}

-- -1, which says nothing
abbrev pub no_bound : ℤ
no_bound = negsuc 0

-- nothing is known
abbrev pub unbounded : Bound
unbounded = record { low = no_bound; high = no_bound }

-- what is known of bond k
abbrev pub bound_at : List Bound → ℕ → Bound
bound_at bounds k = slice_index_or bounds k unbounded

-- the cost of bond k is no less than the lower bound, and no more than the upper one unless that is -1
pub record BoundsCost (inst : Ising) (k : ℕ) (b : Bound) : Type 0 where
  pub low : (c : ℤ) → IsCost inst k c → b.low ≤ℤ c
  pub high : b.high ≢ no_bound → (c : ℤ) → IsCost inst k c → c ≤ℤ b.high

-- bounds of the cost of each bond
pub record AreBounds (inst : Ising) (bounds : List Bound) : Type 0 where
  pub count : length bounds ≡ bond_count inst
  pub each : (k : ℕ) → k < bond_count inst → BoundsCost inst k (bound_at bounds k)

-- both bounds are the cost of bond k
pub record IsKnown (inst : Ising) (k : ℕ) (b : Bound) : Type 0 where
  pub low : IsCost inst k b.low
  pub high : IsCost inst k b.high

-- the cost of each bond of the list is known
abbrev pub AreKnown : Ising → List Bound → List ℕ → Type 0
AreKnown inst bounds bonds = All (λ k. IsKnown inst k (bound_at bounds k)) bonds

-- the lower bound is no less than before; and if there was an upper bound, there is one that is no larger
pub record IsTighter (before after : Bound) : Type 0 where
  pub low : before.low ≤ℤ after.low
  pub high : before.high ≢ no_bound → (after.high ≢ no_bound) × (after.high ≤ℤ before.high)

-- there are as many bounds as before; if those were bounds of the costs, so are these, and none is looser
pub record Narrows (inst : Ising) (before after : List Bound) : Type 0 where
  pub count : length after ≡ length before
  pub bounds : AreBounds inst before → AreBounds inst after
  pub tighter : AreBounds inst before → (k : ℕ) → k < bond_count inst →
      IsTighter (bound_at before k) (bound_at after k)

-- there is an upper bound, and the bounds, if they hold, tell whether the bond is rigid: the lower one is at least 2,
-- or both are 0
pub record Decides (b : Bound) : Type 0 where
  pub some : b.high ≢ no_bound
  pub which : (pos 2 ≤ℤ b.low) ⊎ ((b.low ≡ pos 0) × (b.high ≡ pos 0))

-- the same lower bound, and this upper one
abbrev pub lowered : Bound → ℤ → Bound
lowered b high = record { low = b.low; high = high }

-- the same upper bound, and this lower one
abbrev pub risen : Bound → ℤ → Bound
risen b low = record { low = low; high = b.high }

-- whether bond k is known to cost at least so much
abbrev pub costs_at_least : List Bound → ℤ → ℕ → Bool
costs_at_least bounds least k = int_le least (bound_at bounds k).low

-- the upper bound of bond k is a lower bound too: no cost is below 0 or the lower bound, and if bonds that cost at
-- least so much lead from one end to the other, an assignment that flips the bond flips one of them
pub record IsMet (inst : Ising) (bounds : List Bound) (k : ℕ) : Type 0 where
  pub some : pos 0 ≤ℤ (bound_at bounds k).high
  pub least : ((bound_at bounds k).high ≤ℤ pos 0)
      ⊎ (((bound_at bounds k).high ≤ℤ (bound_at bounds k).low)
      ⊎ Reached inst (costs_at_least bounds (bound_at bounds k).high) (bond_at inst k).u (bond_at inst k).v)

-- of the instance, or of it with another coupling at one bond, the tables of the matching fallback take more bytes
-- than that
abbrev pub ForcedTablesExceed : ℕ → Ising → Type 0
ForcedTablesExceed most inst =
    TablesExceed most inst ⊎ ((k : ℕ) × (j : ℤ) × TablesExceed most (with_coupling inst k j))
