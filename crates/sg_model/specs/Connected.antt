-- Spins that paths of bonds join, and the components that they form.
use Rattle.std.specs.Prelude.{◌≡◌, ◌⊎◌, ◌↔◌, ℕ, ◌<◌, ◌≤◌, ℤ, pos, Bool, true, List, [], ◌∷◌}
use Rattle.std.specs.List.Sorted.{IsStrictlyIncreasing}
use Rattle.sg_base.specs.Sets.{holds}
use Rattle.sg_model.specs.Ising.{Ising, bond_at, bond_count}
use Rattle.sg_model.specs.Spins.{spin}

-- bond k leads from spin a to spin b
abbrev pub HasEnds : Ising → ℕ → ℕ → ℕ → Type 0
HasEnds inst k a b = ((bond_at inst k).u ≡ a) × ((bond_at inst k).v ≡ b)

-- a bond of the set connects the spins a and b
pub record JoinedBy (inst : Ising) (bonds : ℕ → Bool) (a b : ℕ) : Type 0 where
  pub bond : ℕ
  pub below : bond < bond_count inst
  pub in_set : bonds bond ≡ true
  pub ends : HasEnds inst bond a b ⊎ HasEnds inst bond b a

-- from spin a through the spins of the list, the last of which is b, each step over a bond of the set
abbrev pub IsWalk : Ising → (ℕ → Bool) → ℕ → List ℕ → ℕ → Type 0
IsWalk inst bonds a [] b = a ≡ b
IsWalk inst bonds a (c ∷ cs) b = JoinedBy inst bonds a c × IsWalk inst bonds c cs b

-- spin b is reached from spin a over bonds of the set
abbrev pub Reached : Ising → (ℕ → Bool) → ℕ → ℕ → Type 0
Reached inst bonds a b = (path : List ℕ) × IsWalk inst bonds a path b

-- the set of all bonds
abbrev pub all_bonds : ℕ → Bool
all_bonds _ = true

-- each spin is reached from spin 0
abbrev pub IsConnected : Ising → Type 0
IsConnected inst = (i : ℕ) → i < inst.n → Reached inst all_bonds 0 i

-- no spin that i reaches is less
abbrev pub IsLeastReached : Ising → ℕ → Type 0
IsLeastReached inst i = (j : ℕ) → Reached inst all_bonds i j → i ≤ j

-- the least spin of each component, rising; a component is what one spin reaches
pub record AreLeasts (inst : Ising) (leasts : List ℕ) : Type 0 where
  pub rising : IsStrictlyIncreasing leasts
  pub each : (i : ℕ) → (holds leasts i ≡ true) ↔ ((i < inst.n) × IsLeastReached inst i)

-- the least spin of each component is up
abbrev pub LeastsUp : Ising → List ℤ → Type 0
LeastsUp inst s = (i : ℕ) → i < inst.n → IsLeastReached inst i → spin s i ≡ pos 1
