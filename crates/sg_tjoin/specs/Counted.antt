-- The steps that a minimum T-join takes.
use Rattle.std.specs.Prelude.{ℕ, ◌+◌, ◌*◌, ◌<◌, ◌⊎◌}
use Rattle.sg_work.specs.Counts.{event_limit, growth_limit}
use Rattle.sg_regions.specs.Steps.{Accounts}
use Rattle.sg_tjoin.specs.declared.counted.Taken.{Taken}

-- all steps: the blossoms of growing regions that were made and taken apart, the events that were taken, and the steps
-- of matchings
abbrev pub steps_of : Taken → ℕ
steps_of t = t.regions.blossoms + t.regions.events + t.matching.steps

-- how many steps growing regions take at most from so many terminals, in a graph of so many nodes and ends of edges
-- together: those of four runs
abbrev pub region_limit : ℕ → ℕ → ℕ
region_limit terminals places = 4 * growth_limit terminals + 4 * event_limit terminals places

-- how many steps a minimum T-join takes at most: those of growing regions, and those of one matching
abbrev pub step_limit : ℕ → ℕ → ℕ
step_limit terminals places = region_limit terminals places + 2 * terminals * terminals

-- a run of the matching was counted
abbrev pub HasMatched : Taken → Taken → Type 0
HasMatched old new = old.matching.runs < new.matching.runs

-- what proves a join was counted: growing regions of which so many are told of, or a run of the matching
abbrev pub IsAccounted : ℕ → ℕ → Taken → Taken → Type 0
IsAccounted terminals regions old new = Accounts terminals regions old.regions new.regions ⊎ HasMatched old new
