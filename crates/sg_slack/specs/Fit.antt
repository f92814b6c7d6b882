-- The parts of the test whether costs may be taken: a cost, a row, and the ways round.
use Rattle.std.specs.Prelude.{◌≡◌, ℕ, ◌+◌, ◌<◌, ◌≤◌, ◌%◌, ℤ, pos}
use Rattle.sg_base.specs.Limits.{cost_limit}
use Rattle.sg_base.specs.Naturals.{nat_of}
use Rattle.sg_slack.specs.Table.{Table, cost_of}
use Rattle.sg_slack.specs.Metric.{cost}

-- an even cost within the bound
pub record IsEvenCost (c : ℤ) : Type 0 where
  pub whole : c ≡ pos (nat_of c)
  pub even : nat_of c % 2 ≡ 0
  pub bounded : nat_of c ≤ cost_limit

-- an even cost, the same both ways
pub record IsFitCost (t : Table) (u v : ℕ) : Type 0 where
  pub even : IsEvenCost (cost_of t u v)
  pub symmetric : cost_of t u v ≡ cost_of t v u

-- a leaf's costs are fit, and it is joined to itself for nothing
pub record IsFitRow (t : Table) (u : ℕ) : Type 0 where
  pub diagonal : cost_of t u u ≡ pos 0
  pub fit : (v : ℕ) → v < t.size → IsFitCost t u v

-- all leaves' costs are fit
pub record AreFit (t : Table) : Type 0 where
  pub rows : (u : ℕ) → u < t.size → IsFitRow t u

-- from the first leaf over the second it is nowhere nearer than direct
pub record IsNoShortcut (t : Table) (u v : ℕ) : Type 0 where
  pub direct : (w : ℕ) → w < t.size → cost t u w ≤ cost t u v + cost t v w

-- from the leaf it is over no other nearer than direct
pub record IsDirect (t : Table) (u : ℕ) : Type 0 where
  pub over : (v : ℕ) → v < t.size → IsNoShortcut t u v
