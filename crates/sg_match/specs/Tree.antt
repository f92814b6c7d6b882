-- The alternating tree: a root, and edges, each with its inner top and the outer top paired with that.
use Rattle.std.specs.List.{list_any}
use Rattle.std.specs.Prelude.{◌≡◌, ◌≢◌, ℕ, ◌<◌, ◌≤◌, List, length, slice_index, Option, None, Some, slice_index_or}
use Rattle.std.specs.Prelude.{◌∷◌, map, Bool}
use Rattle.sg_arena.specs.Changes.{AreTops}
use Rattle.sg_arena.specs.Family.{Family, Holds, holds}
use Rattle.sg_slack.specs.declared.Mark.{Mark}
use Rattle.sg_slack.specs.declared.Mark.TheVariants.{Free, Inner, Outer}
use Rattle.sg_slack.specs.Tight.{IsTight}
use Rattle.sg_base.specs.Sets.{Stands}
use Rattle.sg_match.specs.Pairs.{pair_of}
use Rattle.sg_match.specs.declared.Edge.{Edge}
use Rattle.sg_match.specs.declared.TreeEdge.{TreeEdge}

-- the edge that is read where a list ends
abbrev pub blank_edge : Edge
blank_edge = record { from = 0; to = 0 }

-- the tree edge that is read where a list ends
abbrev pub blank_tree_edge : TreeEdge
blank_tree_edge = record { inner = 0; outer = 0; up = blank_edge; pair = blank_edge }

-- the tree edge at a place
abbrev pub tree_edge_at : List TreeEdge → ℕ → TreeEdge
tree_edge_at edges i = slice_index_or edges i blank_tree_edge

-- the outer tops of a tree: its root, and the outer top of each tree edge
abbrev pub outers : ℕ → List TreeEdge → List ℕ
outers root edges = root ∷ map (λ l. l.outer) edges

-- the inner tops of a tree, one of each tree edge
abbrev pub inners : List TreeEdge → List ℕ
inners edges = map (λ l. l.inner) edges

-- a leaf of an outer top
abbrev pub IsOuterLeaf : Family → ℕ → List TreeEdge → ℕ → Type 0
IsOuterLeaf f root edges u =
    (i : ℕ) × (i < length (outers root edges)) × Holds f (slice_index (outers root edges) i) u

-- a leaf of an inner top
abbrev pub IsInnerLeaf : Family → List TreeEdge → ℕ → Type 0
IsInnerLeaf f edges u = (i : ℕ) × (i < length (inners edges)) × Holds f (slice_index (inners edges) i) u

-- a leaf of no top of the tree
abbrev pub IsFreeLeaf : Family → ℕ → List TreeEdge → ℕ → Type 0
IsFreeLeaf f root edges u =
    ((i : ℕ) → i < length (outers root edges) → Holds f (slice_index (outers root edges) i) u → ⊥)
    × ((i : ℕ) → i < length (inners edges) → Holds f (slice_index (inners edges) i) u → ⊥)

-- a tree edge ends at an earlier outer top, and its pair joins its two tops
pub record IsTreeEdge (f : Family) (root : ℕ) (edges : List TreeEdge) (i : ℕ) : Type 0 where
  pub pair_from : Holds f (tree_edge_at edges i).inner (tree_edge_at edges i).pair.from
  pub pair_to : Holds f (tree_edge_at edges i).outer (tree_edge_at edges i).pair.to
  pub up_to : (j : ℕ) × (j ≤ i) × Holds f (slice_index (outers root edges) j) (tree_edge_at edges i).up.to

-- tops that differ, and tree edges each of which begins at its inner top
pub record IsShape (f : Family) (root : ℕ) (edges : List TreeEdge) : Type 0 where
  pub tops : AreTops f (outers root edges) (inners edges)
  pub edge : (i : ℕ) → i < length edges → IsTreeEdge f root edges i
  pub up_from : (i : ℕ) → i < length edges → Holds f (tree_edge_at edges i).inner (tree_edge_at edges i).up.from

-- tight edges, from an unpaired root, and the pairs of the inner tops
pub record IsTree (f : Family) (cost : ℕ → ℕ → ℕ) (pairs : List (Option Edge)) (root : ℕ) (edges : List TreeEdge)
    : Type 0 where
  pub shape : IsShape f root edges
  pub exposed_root : pair_of pairs root ≡ None
  pub pair : (i : ℕ) → i < length edges → pair_of pairs (tree_edge_at edges i).inner ≡ Some (tree_edge_at edges i).pair
  pub up_tight : (i : ℕ) → i < length edges →
      IsTight f cost (tree_edge_at edges i).up.from (tree_edge_at edges i).up.to

-- a top outside the tree
pub record IsOut (root : ℕ) (edges : List TreeEdge) (t : ℕ) : Type 0 where
  pub outer : (i : ℕ) → i < length (outers root edges) → slice_index (outers root edges) i ≢ t
  pub inner : (i : ℕ) → i < length (inners edges) → slice_index (inners edges) i ≢ t

-- the mark of a top gives its place
abbrev pub StandsAt : ℕ → List TreeEdge → ℕ → Mark → Type 0
StandsAt root edges top Outer = Stands (outers root edges) top
StandsAt root edges top Inner = Stands (inners edges) top
StandsAt root edges top Free = IsOut root edges top

-- whether a list of tops holds the leaf
abbrev pub any_top : Family → List ℕ → ℕ → Bool
any_top f tops leaf = list_any (λ t. holds f t leaf) tops
