-- How near leaves come to each other, by the tables of the leaves.
use Rattle.std.specs.Prelude.{◌≡◌, ℕ, ◌*◌, List, ℤ, pos, ◌≤ℤ◌}
use Rattle.sg_slack.specs.Slack.{IsOuterFree, IsOuterOuter, slack_of}
use Rattle.sg_slack.specs.Table.{Table}
use Rattle.sg_slack.specs.declared.Mark.{Mark}
use Rattle.sg_match.specs.declared.Event.{Event}
use Rattle.sg_match.specs.declared.Event.TheVariants.{InnerZero, OuterFree, OuterOuter}

-- slacks are whole, those of two outer leaves are even, and there is a free leaf
pub record CanScan (t : Table) (tops : List ℕ) (totals : List ℤ) (marks : List Mark) : Type 0 where
  pub some : (u : ℕ) × (v : ℕ) × IsOuterFree t marks u v
  pub free : (u v : ℕ) → IsOuterFree t marks u v → (n : ℕ) × (slack_of t totals u v ≡ pos n)
  pub both : (u v : ℕ) → IsOuterOuter t tops marks u v → (n : ℕ) × (slack_of t totals u v ≡ pos (2 * n))

-- the pair of leaves that is tight after a raise by this amount, by the tables
abbrev pub IsScannedAt : Table → List ℕ → List ℤ → List Mark → ℕ → Event → Type 0
IsScannedAt t tops totals marks amount (InnerZero node) = ⊥
IsScannedAt t tops totals marks amount (OuterFree u v) = IsOuterFree t marks u v ×
    (slack_of t totals u v ≡ pos amount)
IsScannedAt t tops totals marks amount (OuterOuter u v) = IsOuterOuter t tops marks u v ×
    (slack_of t totals u v ≡ pos (2 * amount))

-- the least such amount by the tables, and its pair
pub record IsScanned (t : Table) (tops : List ℕ) (totals : List ℤ) (marks : List Mark) (amount : ℕ)
    (event : Event) : Type 0 where
  pub free : (u v : ℕ) → IsOuterFree t marks u v → pos amount ≤ℤ slack_of t totals u v
  pub between : (u v : ℕ) → IsOuterOuter t tops marks u v → pos (2 * amount) ≤ℤ slack_of t totals u v
  pub one : IsScannedAt t tops totals marks amount event
