-- The steps of growing regions, as a proposer counts them.
use Rattle.std.specs.Prelude.{ℕ, ◌+◌, ◌-◌, ◌*◌, ◌<◌, ◌≤◌}
use Rattle.sg_work.specs.Counts.{event_limit, growth_limit}
use Rattle.sg_work.specs.declared.growth.Growth.{Growth}

-- how many blossoms were made and taken apart, and how many events were taken, for so many proposals
pub record RegionSteps : Type 0 where
  pub blossoms : ℕ
  pub events : ℕ
  pub proposals : ℕ

-- no count falls, and in at most so many runs from so many terminals none rises by more than these may take
pub record TakesRuns (runs terminals places : ℕ) (old new : RegionSteps) : Type 0 where
  pub blossoms_rise : old.blossoms ≤ new.blossoms
  pub blossoms : new.blossoms ≤ old.blossoms + runs * growth_limit terminals
  pub events_rise : old.events ≤ new.events
  pub events : new.events ≤ old.events + runs * event_limit terminals places

-- the least that so many regions from so many terminals take was counted: each region but those of the terminals is a
-- blossom that was made, and if there are terminals, some event was taken
pub record Accounts (terminals regions : ℕ) (old new : RegionSteps) : Type 0 where
  pub blossoms : regions ≤ terminals + (new.blossoms - old.blossoms)
  pub events : 0 < terminals → old.events < new.events

-- the same of the steps of one proposal
pub record GrowthAccounts (terminals regions : ℕ) (g : Growth) : Type 0 where
  pub blossoms : regions ≤ terminals + g.blossoms
  pub events : 0 < terminals → 0 < g.events

-- before the first proposal
abbrev pub no_steps : RegionSteps
no_steps = record { blossoms = 0; events = 0; proposals = 0 }
