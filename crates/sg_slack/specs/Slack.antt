-- The slack of two leaves, and the least slack of some pairs.
use Rattle.std.specs.Prelude.{◌≡◌, ◌≢◌, ℕ, ◌<◌, List, slice_index_or, slice_index, ℤ, pos, ◌-ℤ◌, ◌≤ℤ◌, Option, Some}
use Rattle.std.specs.Prelude.{None, FitsSigned}
use Rattle.std.specs.Int.{w64}
use Rattle.sg_slack.specs.declared.Mark.{Mark}
use Rattle.sg_slack.specs.declared.Mark.TheVariants.{Free, Outer}
use Rattle.sg_slack.specs.declared.Pair.{Pair}
use Rattle.sg_slack.specs.Table.{Table, cost_of}

-- the total of a leaf
abbrev pub total_at : List ℤ → ℕ → ℤ
total_at totals leaf = slice_index_or totals leaf (pos 0)

-- the mark of a leaf
abbrev pub mark_at : List Mark → ℕ → Mark
mark_at marks leaf = slice_index_or marks leaf Free

-- the cost of two leaves less their totals
abbrev pub slack_of : Table → List ℤ → ℕ → ℕ → ℤ
slack_of t totals u v = (cost_of t u v -ℤ total_at totals u) -ℤ total_at totals v

-- each slack fits an i64, and so does what is left of a cost after the first total
pub record SumsFit (t : Table) (totals : List ℤ) : Type 0 where
  pub first : (u v : ℕ) → u < t.size → v < t.size → FitsSigned w64 (cost_of t u v -ℤ total_at totals u)
  pub slack : (u v : ℕ) → u < t.size → v < t.size → FitsSigned w64 (slack_of t totals u v)

-- an outer and a free leaf
pub record IsOuterFree (t : Table) (marks : List Mark) (u v : ℕ) : Type 0 where
  pub u_leaf : u < t.size
  pub v_leaf : v < t.size
  pub outer : mark_at marks u ≡ Outer
  pub free : mark_at marks v ≡ Free

-- two outer leaves of different tops
pub record IsOuterOuter (t : Table) (tops : List ℕ) (marks : List Mark) (u v : ℕ) : Type 0 where
  pub u_leaf : u < t.size
  pub v_leaf : v < t.size
  pub u_outer : mark_at marks u ≡ Outer
  pub v_outer : mark_at marks v ≡ Outer
  pub apart : slice_index tops u ≢ slice_index tops v

-- one of these pairs with its slack, and none of them has less
pub record IsLeast (t : Table) (totals : List ℤ) (Is : ℕ → ℕ → Type 0) (p : Pair) : Type 0 where
  pub one : Is p.u p.v
  pub slack : p.slack ≡ slack_of t totals p.u p.v
  pub least : (u v : ℕ) → Is u v → p.slack ≤ℤ slack_of t totals u v

-- a pair of least slack among these, and nothing exactly if there is none
abbrev pub Least : Table → List ℤ → (ℕ → ℕ → Type 0) → Option Pair → Type 0
Least t totals Is None = (u v : ℕ) → ¬ Is u v
Least t totals Is (Some p) = IsLeast t totals Is p
