-- Pairs of leaves of slack 0.
use Rattle.std.specs.Prelude.{◌≡◌, ℕ}
use Rattle.sg_arena.specs.Family.{Family}
use Rattle.sg_arena.specs.Slack.{duals_between}

-- the pair's slack is 0
abbrev pub IsTight : Family → (ℕ → ℕ → ℕ) → ℕ → ℕ → Type 0
IsTight f cost u v = duals_between f u v ≡ cost u v
