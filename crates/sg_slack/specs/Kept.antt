-- What a `Near` keeps of its members: the total of each less what all have risen by, and for each leaf the
-- nearest of them.
use Rattle.std.specs.Prelude.{◌≡◌, ℕ, ◌<◌, List, length, map, slice_index_or, ℤ, pos, ◌+ℤ◌, ◌-ℤ◌, ◌≤ℤ◌, FitsSigned}
use Rattle.std.specs.Prelude.{Bool, true, false, ◌⊎◌, Option, Some, None}
use Rattle.std.specs.Int.{w64}
use Rattle.sg_slack.specs.declared.Mark.{Mark}
use Rattle.sg_slack.specs.declared.Mark.TheVariants.{Outer}
use Rattle.sg_slack.specs.declared.member.Kept.{Kept}
use Rattle.sg_slack.specs.declared.near.Nearest.{Nearest}
use Rattle.sg_slack.specs.Members.{Member}
use Rattle.sg_slack.specs.Slack.{mark_at, total_at}
use Rattle.sg_slack.specs.Table.{Table, cost_of}

-- the member at a place
abbrev pub kept_at : List Kept → ℕ → Kept
kept_at members i = slice_index_or members i (record { leaf = 0; base = pos 0 })

-- the nearest member of a leaf
abbrev pub nearest_at : List Nearest → ℕ → Nearest
nearest_at nearest v = slice_index_or nearest v (record { leaf = 0; key = pos 0 })

-- the members with their totals
abbrev pub members_of : ℤ → List Kept → List Member
members_of rise members = map (λ m. record { leaf = m.leaf; total = m.base +ℤ rise }) members

-- a cost less the member's total, but for what all totals have risen by
abbrev pub key_of : Table → Kept → ℕ → ℤ
key_of t m v = cost_of t m.leaf v -ℤ m.base

-- a member of least key for the leaf v
pub record IsNearestOf (t : Table) (members : List Kept) (v : ℕ) (n : Nearest) : Type 0 where
  pub at : ℕ
  pub low : at < length members
  pub leaf : (kept_at members at).leaf ≡ n.leaf
  pub key : n.key ≡ key_of t (kept_at members at) v
  pub least : (i : ℕ) → i < length members → n.key ≤ℤ key_of t (kept_at members i) v

-- what holds between two calls; the first member came when nothing had risen
pub record IsNear (t : Table) (rise : ℤ) (members : List Kept) (places : List ℕ) (nearest : List Nearest)
    : Type 0 where
  pub places_count : length places ≡ t.size
  pub nearest_count : length nearest ≡ t.size
  pub rise_whole : pos 0 ≤ℤ rise
  pub rise_none : length members ≡ 0 → rise ≡ pos 0
  pub first : 0 < length members → FitsSigned w64 (kept_at members 0).base
  pub fits : (i : ℕ) → i < length members → FitsSigned w64 ((kept_at members i).base +ℤ rise)
  pub low : (i : ℕ) → i < length members → (kept_at members i).leaf < t.size
  pub placed : (i : ℕ) → i < length members → slice_index_or places (kept_at members i).leaf 0 ≡ i
  pub each : (v : ℕ) → v < t.size → 0 < length members → IsNearestOf t members v (nearest_at nearest v)

-- an outer member whose total has risen by this number
abbrev pub HasRisen : List ℤ → List Mark → ℤ → Kept → Type 0
HasRisen totals marks rise m = (mark_at marks m.leaf ≡ Outer) × (total_at totals m.leaf ≡ m.base +ℤ rise)

-- all have, since the first member came, and by no less than at the last change
pub record IsRiseTo (members : List Kept) (last : ℤ) (totals : List ℤ) (marks : List Mark) (rise : ℤ)
    : Type 0 where
  pub some : 0 < length members
  pub more : last ≤ℤ rise
  pub each : (i : ℕ) → i < length members → HasRisen totals marks rise (kept_at members i)

-- the rise, if there is one, and each member's total fits an i64
abbrev pub IsRise : List Kept → ℤ → List ℤ → List Mark → Option ℤ → Type 0
IsRise members last totals marks None = (rise : ℤ) → ¬ IsRiseTo members last totals marks rise
IsRise members last totals marks (Some rise) = IsRiseTo members last totals marks rise ×
    ((i : ℕ) → i < length members → FitsSigned w64 (total_at totals (kept_at members i).leaf))

-- the new member, if it is the first or has the less key, else the one before
abbrev pub IsTakenAt : Table → Kept → Bool → ℕ → Nearest → Nearest → Type 0
IsTakenAt t m first v old new =
    ((new ≡ record { leaf = m.leaf; key = key_of t m v }) × ((first ≡ true) ⊎ (key_of t m v ≤ℤ old.key))) ⊎
    ((new ≡ old) × (first ≡ false) × (old.key ≤ℤ key_of t m v))

-- what is left of the cost to the nearest member after the member's total
abbrev pub IsKeyOf : Table → List ℤ → ℤ → ℕ → Nearest → Type 0
IsKeyOf t totals rise v n = n.key -ℤ rise ≡ cost_of t n.leaf v -ℤ total_at totals n.leaf
