-- Slack 0 is the same either way round.
use Rattle.std.proofs.Common.{◌≡◌, ℕ, ◌∙◌}
use Rattle.sg_arena.proofs.DualLemmas.{duals_between-back}
use Rattle.sg_arena.specs.Family.{Family}
use Rattle.sg_slack.specs.Tight.{IsTight}

-- where the cost is the same both ways, so is being tight
pub tight-back : (f : Family) (cost : ℕ → ℕ → ℕ) (u v : ℕ) → cost u v ≡ cost v u → IsTight f cost u v → IsTight f cost v u
tight-back f cost u v same tight = duals_between-back f v u ∙ tight ∙ same
