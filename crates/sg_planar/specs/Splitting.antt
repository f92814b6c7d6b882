-- How an instance is split into its parts: spins and bonds are dealt out by the least spin of their component.
use Rattle.std.specs.Prelude.{◌≡◌, ℕ, ◌+◌, ◌*◌, ◌/◌, ◌%◌, ◌^◌, ◌<◌, ◌≤◌, ◌==◌, true, List, [], length, map, slice_index, slice_index_or, All}
use Rattle.std.specs.List.Sorted.{IsStrictlyIncreasing}
use Rattle.sg_base.specs.Sets.{chosen_below, holds}
use Rattle.sg_model.specs.declared.bond.Bond.{Bond}
use Rattle.sg_model.specs.Ising.{Ising, bond_at, bond_count}
use Rattle.sg_model.specs.Connected.{Reached, all_bonds}
use Rattle.sg_planar.specs.Parts.{place_in, restricted}

-- each spin has the name of the least spin that it reaches
pub record IsNaming (inst : Ising) (name : ℕ → ℕ) : Type 0 where
  pub reached : (x : ℕ) → x < inst.n → Reached inst all_bonds x (name x)
  pub least : (x j : ℕ) → x < inst.n → Reached inst all_bonds x j → name x ≤ j

-- the spins of a name, rising
abbrev pub named_spins : Ising → (ℕ → ℕ) → ℕ → List ℕ
named_spins inst name c = chosen_below (λ x. name x == c) inst.n

-- the bonds between them, rising
abbrev pub named_bonds : Ising → (ℕ → ℕ) → ℕ → List ℕ
named_bonds inst name c = chosen_below (λ k. name (bond_at inst k).u == c) (bond_count inst)

-- the component of a name, as an instance of its own
abbrev pub component : Ising → (ℕ → ℕ) → ℕ → Ising
component inst name c = restricted inst (named_spins inst name c) (named_bonds inst name c)

-- the spins that have their own name, before `stop`
abbrev pub own_names : (ℕ → ℕ) → ℕ → List ℕ
own_names name stop = chosen_below (λ c. name c == c) stop

-- spins that no bond leaves, and all bonds between them
pub record IsClosedPart (inst : Ising) (spins bonds : List ℕ) : Type 0 where
  pub some : 0 < length spins
  pub spins_rise : IsStrictlyIncreasing spins
  pub bonds_rise : IsStrictlyIncreasing bonds
  pub spins_below : (x : ℕ) → holds spins x ≡ true → x < inst.n
  pub bonds_below : (k : ℕ) → holds bonds k ≡ true → k < bond_count inst
  pub first_end : (k : ℕ) → k < bond_count inst → holds spins (bond_at inst k).u ≡ holds bonds k
  pub second_end : (k : ℕ) → k < bond_count inst → holds spins (bond_at inst k).v ≡ holds bonds k

-- the numbers before `stop`, dealt out by their labels, which are below `count`: each label has a list, and each number
-- the place that it took there
pub record IsDealt (label : ℕ → ℕ) (count stop : ℕ) (lists : List (List ℕ)) (places : List ℕ) : Type 0 where
  pub lists_count : length lists ≡ count
  pub places_count : length places ≡ stop
  pub dealt : (c : ℕ) → c < count → slice_index_or lists c [] ≡ chosen_below (λ k. label k == c) stop
  pub placed : (k : ℕ) → k < stop → slice_index places k ≡ length (chosen_below (λ j. label j == label k) k)

-- a table of numbers that has the place of each one that the list holds
pub record ArePlaces (xs places : List ℕ) (count : ℕ) : Type 0 where
  pub places_count : length places ≡ count
  pub each : (x : ℕ) → holds xs x ≡ true → slice_index places x ≡ place_in xs x
  pub small : All (λ p. p < 2 ^ 24) places

-- spins and bonds, dealt out by the names of the spins
pub record IsSplit (inst : Ising) (names : List ℕ) (spin_lists : List (List ℕ)) (spin_places : List ℕ)
    (bond_lists : List (List ℕ)) (bond_places : List ℕ) : Type 0 where
  pub names_count : length names ≡ inst.n
  pub naming : IsNaming inst (slice_index names)
  pub spins : IsDealt (slice_index names) inst.n inst.n spin_lists spin_places
  pub bonds : IsDealt (λ k. slice_index names (bond_at inst k).u) inst.n (bond_count inst) bond_lists bond_places

-- a bond between the places that the table has for its ends
abbrev pub placed_bond : List ℕ → Bond → Bond
placed_bond places b = record { u = slice_index places b.u; v = slice_index places b.v; j = b.j }

-- darts by the places that the table has for their bonds
abbrev pub placed_darts : List ℕ → List ℕ → List ℕ
placed_darts places darts = map (λ d. 2 * slice_index places (d / 2) + d % 2) darts
