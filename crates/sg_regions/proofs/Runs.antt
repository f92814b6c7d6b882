-- The steps of runs one after another.
use Rattle.std.proofs.Common.{ℕ, ◌+◌, ◌*◌, ◌-◌, ◌≡◌, ◌≤◌, ◌^◌, Option, Some, None, IfSome, arith, min}
use Rattle.std.proofs.lemmas.Nat.{mul-le}
use Rattle.std.proofs.Math.Nat.{add-mul, min-le_left}
use Rattle.sg_work.specs.Counts.{KeepsTo, event_limit, growth_limit}
use Rattle.sg_work.specs.declared.growth.Growth.{Growth}
use Rattle.sg_regions.specs.Steps.{Accounts, GrowthAccounts, RegionSteps, TakesRuns}

-- what keeps to a multiple keeps to a greater one
more : (m n x a : ℕ) → m ≤ n → a ≤ m * x → a ≤ n * x
more m n x a less keeps = omega (arith, keeps, mul-le m x n x less (omega arith))

-- a sum that stops at a largest number keeps to the sum of two multiples
sum : (m n x a b c most : ℕ) → a ≤ m * x → b ≤ n * x → c ≡ min (a + b) most → c ≤ (m + n) * x
sum m n x a b c most first second e = omega (arith, first, second, e, min-le_left (a + b) most, add-mul m n x)

-- fewer runs keep to what more of them may take
pub keeps_to_more : (m n terminals places : ℕ) (g : Growth) → m ≤ n → KeepsTo m terminals places g → KeepsTo n terminals places g
keeps_to_more m n terminals places g less keeps = record {
  blossoms = more m n (growth_limit terminals) g.blossoms less keeps.blossoms;
  events = more m n (event_limit terminals places) g.events less keeps.events;
}

-- runs, and runs after them
pub keeps_to_and : (m n terminals places : ℕ) (first second both : Growth) →
    KeepsTo m terminals places first → KeepsTo n terminals places second →
    both.blossoms ≡ min (first.blossoms + second.blossoms) (2 ^ 64 - 1) →
    both.events ≡ min (first.events + second.events) (2 ^ 64 - 1) → KeepsTo (m + n) terminals places both
keeps_to_and m n terminals places first second both one other blossoms events = record {
  blossoms = sum m n (growth_limit terminals) first.blossoms second.blossoms both.blossoms _ one.blossoms other.blossoms blossoms;
  events = sum m n (event_limit terminals places) first.events second.events both.events _ one.events other.events events;
}

-- runs, and runs after them
pub takes_both : (m n terminals places : ℕ) (old mid new : RegionSteps) →
    TakesRuns m terminals places old mid → TakesRuns n terminals places mid new → TakesRuns (m + n) terminals places old new
takes_both m n terminals places old mid new first second = record {
  blossoms_rise = omega (arith, first.blossoms_rise, second.blossoms_rise);
  blossoms = omega (arith, first.blossoms, second.blossoms, add-mul m n (growth_limit terminals));
  events_rise = omega (arith, first.events_rise, second.events_rise);
  events = omega (arith, first.events, second.events, add-mul m n (event_limit terminals places));
}

-- fewer runs take no more than more of them may
pub takes_more : (m n terminals places : ℕ) (old new : RegionSteps) → m ≤ n → TakesRuns m terminals places old new →
    TakesRuns n terminals places old new
takes_more m n terminals places old new less takes = record {
  blossoms_rise = takes.blossoms_rise;
  blossoms = omega (arith, takes.blossoms, mul-le m (growth_limit terminals) n (growth_limit terminals) less (omega arith));
  events_rise = takes.events_rise;
  events = omega (arith, takes.events, mul-le m (event_limit terminals places) n (event_limit terminals places) less (omega arith));
}

-- what was counted later was counted
pub accounts_later : (m terminals places regions : ℕ) (old mid new : RegionSteps) →
    TakesRuns m terminals places old mid → Accounts terminals regions mid new → Accounts terminals regions old new
accounts_later m terminals places regions old mid new first counted = record {
  blossoms = omega (arith, first.blossoms_rise, counted.blossoms);
  events = λ some. omega (arith, first.events_rise, counted.events some);
}

-- what the growth of a proposal accounts for, the steps with it account for
pub accounts_grown : {P : Type 0} (o : Option P) (regions : P → ℕ) (terminals : ℕ) (g : Growth) (old new : RegionSteps) →
    new.blossoms ≡ old.blossoms + g.blossoms → new.events ≡ old.events + g.events →
    IfSome o (λ p. GrowthAccounts terminals (regions p) g) → IfSome o (λ p. Accounts terminals (regions p) old new)
accounts_grown (Some p) regions terminals g old new blossoms events counted = record {
  blossoms = omega (arith, blossoms, counted.blossoms);
  events = λ some. omega (arith, events, counted.events some);
}
accounts_grown None regions terminals g old new blossoms events counted = tt
