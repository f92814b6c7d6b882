-- The costs that an engine takes.
use Rattle.std.specs.Prelude.{◌≡◌, ℕ, ◌+◌, ◌<◌, ◌≤◌, ◌%◌, ◌^◌, pos}
use Rattle.sg_base.specs.Limits.{cost_limit}
use Rattle.sg_base.specs.Naturals.{nat_of}
use Rattle.sg_slack.specs.Table.{Table, cost_of}

-- the cost of two leaves, as a natural number
abbrev pub cost : Table → ℕ → ℕ → ℕ
cost t u v = nat_of (cost_of t u v)

-- even costs, symmetric, 0 on the diagonal, and no way round is cheaper than the direct one
pub record IsMetric (t : Table) : Type 0 where
  pub even_size : t.size % 2 ≡ 0
  pub small : t.size ≤ 2 ^ 24
  pub whole : (u v : ℕ) → u < t.size → v < t.size → cost_of t u v ≡ pos (cost t u v)
  pub even : (u v : ℕ) → u < t.size → v < t.size → cost t u v % 2 ≡ 0
  -- totals and their sums stay within 64 bits
  pub bounded : (u v : ℕ) → u < t.size → v < t.size → cost t u v ≤ cost_limit
  pub symmetric : (u v : ℕ) → u < t.size → v < t.size → cost t u v ≡ cost t v u
  pub diagonal : (u : ℕ) → u < t.size → cost t u u ≡ 0
  pub triangle : (u v w : ℕ) → u < t.size → v < t.size → w < t.size → cost t u w ≤ cost t u v + cost t v w
