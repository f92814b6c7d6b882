-- Duals under which no slack is negative, and links of cycles have slack 0.
use Rattle.std.specs.Prelude.{◌≡◌, ℕ, ◌<◌, ◌≤◌, length, ◌%◌}
use Rattle.sg_arena.specs.Family.{Family, Holds, leaf_count, IsTop, IsFamily, cycle_of, link_at, total_of}
use Rattle.sg_arena.specs.Slack.{duals_between}
use Rattle.sg_slack.specs.Tight.{IsTight}

-- no slack is negative, links of cycles are tight, and totals within a top have one parity
pub record IsFeasible (f : Family) (cost : ℕ → ℕ → ℕ) : Type 0 where
  pub family : IsFamily f
  pub slack : (u v : ℕ) → u < leaf_count f → v < leaf_count f → duals_between f u v ≤ cost u v
  pub links : (name i : ℕ) → i < length (cycle_of f name) →
      IsTight f cost (link_at (cycle_of f name) i).from (link_at (cycle_of f name) i).to
  pub parity : (t u v : ℕ) → IsTop f t → Holds f t u → Holds f t v → total_of f u % 2 ≡ total_of f v % 2
