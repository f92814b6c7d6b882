-- How many blossoms growing regions make and take apart, and how many events they take.
use Rattle.std.specs.Prelude.{◌≡◌, ℕ, ◌+◌, ◌*◌, ◌/◌, ◌≤◌, nat_lt, Bool, List, count_by}
use Rattle.sg_work.specs.declared.blossoms.Whole.{Whole}
use Rattle.sg_work.specs.declared.growth.Growth.{Growth}

-- how many blossoms were made, how many of them were taken apart again, and how many may be, both together
pub record Counts : Type 0 where
  pub made : ℕ
  pub expanded : ℕ
  pub most : ℕ

-- how many events were taken, and how much work is allowed
pub record WorkDone : Type 0 where
  pub events : ℕ
  pub most : ℕ

-- whether a region has parts
abbrev pub is_blossom : Whole → Bool
is_blossom w = nat_lt 0 w.size

-- the blossoms there are and those that were taken apart are all that were made, and these are no more than may be
pub record IsCounted (wholes : List Whole) (made expanded most : ℕ) : Type 0 where
  pub each : count_by is_blossom wholes + expanded ≡ made
  pub within : made + expanded ≤ most

-- how many blossoms a run from so many terminals may make and take apart
abbrev pub growth_limit : ℕ → ℕ
growth_limit terminals = 2 * terminals * terminals

-- how many events it may take over so many nodes and edge ends together
abbrev pub event_limit : ℕ → ℕ → ℕ
event_limit terminals places = 65536 + 12 * (terminals + 11) * places + terminals * terminals * terminals / 48

-- what so many runs from so many terminals may take together
pub record KeepsTo (runs terminals places : ℕ) (g : Growth) : Type 0 where
  pub blossoms : g.blossoms ≤ runs * growth_limit terminals
  pub events : g.events ≤ runs * event_limit terminals places
