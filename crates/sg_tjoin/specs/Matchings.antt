-- The steps of matchings.
use Rattle.std.specs.Prelude.{ℕ}

-- how many steps were taken, in so many runs of the engine
pub record MatchingSteps : Type 0 where
  pub steps : ℕ
  pub runs : ℕ

-- before the first run
abbrev pub no_matchings : MatchingSteps
no_matchings = record { steps = 0; runs = 0 }
