-- The pairs of tops.
use Rattle.std.specs.Prelude.{◌≡◌, ◌≢◌, ℕ, List, Option, None, Some, slice_index_or, IsSome}
use Rattle.sg_arena.specs.Family.{Family, Holds, IsTop}
use Rattle.sg_arena.specs.declared.Link.{Link}
use Rattle.sg_match.specs.declared.Edge.{Edge}

-- the pair of a top: an edge from a leaf of it to a leaf of another top
abbrev pub pair_of : List (Option Edge) → ℕ → Option Edge
pair_of pairs t = slice_index_or pairs t None

-- the edge the other way round
abbrev pub flipped : Edge → Edge
flipped e = record { from = e.to; to = e.from }

-- the edge that a link is
abbrev pub edge_of_link : Link → Edge
edge_of_link l = record { from = l.from; to = l.to }

-- a top's pair leads from a leaf of it to a leaf of another top, whose pair is its flip, and is good
pub record IsPaired (f : Family) (good : ℕ → ℕ → Type 0) (pairs : List (Option Edge)) : Type 0 where
  pub own : (t : ℕ) (p : Edge) → IsTop f t → pair_of pairs t ≡ Some p → Holds f t p.from
  pub other : (t : ℕ) (p : Edge) → IsTop f t → pair_of pairs t ≡ Some p → (s : ℕ) × IsTop f s × (s ≢ t) ×
      Holds f s p.to × (pair_of pairs s ≡ Some (flipped p))
  pub tight : (t : ℕ) (p : Edge) → IsTop f t → pair_of pairs t ≡ Some p → good p.from p.to

-- all tops are paired
abbrev pub AllPaired : Family → List (Option Edge) → Type 0
AllPaired f pairs = (t : ℕ) → IsTop f t → IsSome (pair_of pairs t)
