-- How near the tree's outer leaves come to each other and to the leaves outside.
use Rattle.std.specs.Prelude.{◌≡◌, ℕ, ◌+◌, ◌*◌, ◌<◌, List, length, slice_index, ◌%◌}
use Rattle.sg_arena.specs.Family.{Family, Holds, leaf_count, IsTop, total_of}
use Rattle.sg_arena.specs.Slack.{duals_between}
use Rattle.sg_match.specs.DualChange.{KeepsSlacks}
use Rattle.sg_match.specs.Feasible.{IsFeasible}
use Rattle.sg_match.specs.Tree.{outers, IsOuterLeaf, IsShape, IsOut}
use Rattle.sg_match.specs.declared.Event.{Event}
use Rattle.sg_match.specs.declared.Event.TheVariants.{InnerZero, OuterFree, OuterOuter}
use Rattle.sg_match.specs.declared.TreeEdge.{TreeEdge}

-- a tree with some leaf outside, and with even slacks between its outer tops
pub record HasNearest (f : Family) (cost : ℕ → ℕ → ℕ) (root : ℕ) (edges : List TreeEdge) : Type 0 where
  pub feasible : IsFeasible f cost
  pub shape : IsShape f root edges
  pub free : (t : ℕ) × (v : ℕ) × IsTop f t × IsOut root edges t × Holds f t v
  pub alike : (i j u v : ℕ) → i < length (outers root edges) → j < length (outers root edges) →
      Holds f (slice_index (outers root edges) i) u → Holds f (slice_index (outers root edges) j) v →
      total_of f u % 2 ≡ total_of f v % 2

-- an outer leaf and one outside the tree, whose slack is the amount
pub record IsOuterFreeAt (f : Family) (cost : ℕ → ℕ → ℕ) (root : ℕ) (edges : List TreeEdge) (amount u v : ℕ)
    : Type 0 where
  pub low_u : u < leaf_count f
  pub low_v : v < leaf_count f
  pub outer : IsOuterLeaf f root edges u
  pub out : (t : ℕ) → IsTop f t → Holds f t v → IsOut root edges t
  pub slack : duals_between f u v + amount ≡ cost u v

-- two leaves of different outer tops, half whose slack is the amount
pub record IsOuterOuterAt (f : Family) (cost : ℕ → ℕ → ℕ) (root : ℕ) (edges : List TreeEdge) (amount u v : ℕ)
    : Type 0 where
  pub low_u : u < leaf_count f
  pub low_v : v < leaf_count f
  pub outer_u : IsOuterLeaf f root edges u
  pub outer_v : IsOuterLeaf f root edges v
  pub apart : (t : ℕ) → IsTop f t → Holds f t u → Holds f t v → ⊥
  pub slack : duals_between f u v + 2 * amount ≡ cost u v

-- the pair of leaves that is tight after a raise by this amount
abbrev pub IsAt : Family → (ℕ → ℕ → ℕ) → ℕ → List TreeEdge → ℕ → Event → Type 0
IsAt f cost root edges amount (InnerZero node) = ⊥
IsAt f cost root edges amount (OuterFree u v) = IsOuterFreeAt f cost root edges amount u v
IsAt f cost root edges amount (OuterOuter u v) = IsOuterOuterAt f cost root edges amount u v

-- the least slack of an outer leaf and one outside, or half that of two outer leaves, and its pair
pub record IsNearest (f : Family) (cost : ℕ → ℕ → ℕ) (root : ℕ) (edges : List TreeEdge) (amount : ℕ) (event : Event)
    : Type 0 where
  pub slacks : KeepsSlacks f cost root edges amount
  pub one : IsAt f cost root edges amount event
