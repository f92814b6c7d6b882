-- The parts of a scan over all pairs: one row, and the nearer of two pairs.
use Rattle.std.specs.Prelude.{◌≡◌, ℕ, ◌<◌, List}
use Rattle.std.specs.Prelude.{◌≤ℤ◌, Option, Some, None, ◌⊎◌}
use Rattle.sg_slack.specs.declared.Mark.{Mark}
use Rattle.sg_slack.specs.declared.Pair.{Pair}
use Rattle.sg_slack.specs.Table.{Table}
use Rattle.sg_slack.specs.Slack.{IsOuterFree, IsOuterOuter, mark_at}
use Rattle.sg_slack.specs.Kept.{nearest_at}
use Rattle.sg_slack.specs.declared.Mark.TheVariants.{Free}
use Rattle.sg_slack.specs.declared.near.Nearest.{Nearest}

-- such a pair of this row
abbrev pub IsOuterFreeOf : Table → List Mark → ℕ → ℕ → ℕ → Type 0
IsOuterFreeOf t marks row u v = (u ≡ row) × IsOuterFree t marks u v

-- such a pair of this row
abbrev pub IsOuterOuterOf : Table → List ℕ → List Mark → ℕ → ℕ → ℕ → Type 0
IsOuterOuterOf t tops marks row u v = (u ≡ row) × IsOuterOuter t tops marks u v

-- a free leaf and its nearest member
pub record IsNearestFree (t : Table) (nearest : List Nearest) (marks : List Mark) (u v : ℕ) : Type 0 where
  pub v_leaf : v < t.size
  pub nearest_is : u ≡ (nearest_at nearest v).leaf
  pub free : mark_at marks v ≡ Free

-- the pair of less slack, if there are two
abbrev pub IsLesser : Option Pair → Option Pair → Option Pair → Type 0
IsLesser None more result = result ≡ more
IsLesser (Some p) None result = result ≡ Some p
IsLesser (Some p) (Some q) result = ((result ≡ Some p) × (p.slack ≤ℤ q.slack)) ⊎
    ((result ≡ Some q) × (q.slack ≤ℤ p.slack))
