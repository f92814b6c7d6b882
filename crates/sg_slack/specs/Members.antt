-- The outer leaves that a `Near` knows, with their totals.
use Rattle.std.specs.Prelude.{◌≡◌, ℕ, ◌<◌, List, length, map, slice_index_or, ℤ, pos, ◌+ℤ◌, ◌≤ℤ◌, FitsSigned}
use Rattle.std.specs.Int.{w64}
use Rattle.sg_slack.specs.Slack.{mark_at, total_at}
use Rattle.sg_slack.specs.Table.{Table}
use Rattle.sg_slack.specs.declared.Mark.{Mark}
use Rattle.sg_slack.specs.declared.Mark.TheVariants.{Outer}

-- a leaf and its total
pub record Member : Type 0 where
  pub leaf : ℕ
  pub total : ℤ

-- the costs, and the members in the order in which they came
pub record Known : Type 0 where
  pub table : Table
  pub members : List Member

-- the member at a place
abbrev pub member_at : List Member → ℕ → Member
member_at members i = slice_index_or members i (record { leaf = 0; total = pos 0 })

-- the leaf is one of the members
abbrev pub IsMember : List Member → ℕ → Type 0
IsMember members leaf = (i : ℕ) × (i < length members) × ((member_at members i).leaf ≡ leaf)

-- each total has grown by delta
abbrev pub grown : ℤ → List Member → List Member
grown delta members = map (λ m. record { leaf = m.leaf; total = m.total +ℤ delta }) members

-- each total fits an i64 after such a growth
abbrev pub TotalsFit : ℤ → List Member → Type 0
TotalsFit delta members = (i : ℕ) → i < length members → FitsSigned w64 ((member_at members i).total +ℤ delta)

-- the table of totals has each member's
abbrev pub Agree : List Member → List ℤ → Type 0
Agree members totals = (i : ℕ) → i < length members →
    total_at totals (member_at members i).leaf ≡ (member_at members i).total

-- each member is a leaf that is marked as outer
abbrev pub AreMarked : List Member → List Mark → Type 0
AreMarked members marks = (i : ℕ) → i < length members → ((member_at members i).leaf < length marks) ×
    (mark_at marks (member_at members i).leaf ≡ Outer)

-- each member is outer, and the table has its total grown by delta, which is not negative
pub record HaveGrown (members : List Member) (totals : List ℤ) (marks : List Mark) (delta : ℤ) : Type 0 where
  pub whole : pos 0 ≤ℤ delta
  pub outer : AreMarked members marks
  pub agree : Agree (grown delta members) totals
