-- The steps of a proposal and of its retry.
use Rattle.std.proofs.Common.{ℕ, Option, Some, None, IfSome}
use Rattle.sg_regions.specs.Steps.{Accounts, RegionSteps, TakesRuns}
use Rattle.sg_regions.proofs.Runs.{accounts_later}

-- what a retry accounts for, all runs account for
pub later : {P : Type 0} (o : Option P) (regions : P → ℕ) (m terminals places : ℕ) (old mid new : RegionSteps) →
    TakesRuns m terminals places old mid → IfSome o (λ p. Accounts terminals (regions p) mid new) → IfSome o (λ p. Accounts terminals (regions p) old new)
later (Some p) regions m terminals places old mid new takes counted = accounts_later m terminals places (regions p) old mid new takes counted
later None regions m terminals places old mid new takes counted = tt
