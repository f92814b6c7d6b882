-- The odd cycle that an edge between two outer tops closes in the tree.
use Rattle.std.specs.Prelude.{◌≡◌, ℕ, ◌<◌, ◌≤◌, List, length, slice_index, ◌%◌, ◌⊎◌, Contains}
use Rattle.sg_arena.specs.Family.{Family, leaf_count}
use Rattle.sg_arena.specs.declared.Link.{Link}
use Rattle.sg_slack.specs.Tight.{IsTight}
use Rattle.sg_base.specs.Sets.{Differ}
use Rattle.sg_match.specs.Path.{IsPath, nodes_of}
use Rattle.sg_match.specs.Tree.{tree_edge_at, outers}
use Rattle.sg_match.specs.declared.TreeEdge.{TreeEdge}

-- a top of a tree edge that is at a place or after it, both of whose tops are in the list
pub record IsSpot (edges : List TreeEdge) (nodes : List ℕ) (place n : ℕ) : Type 0 where
  pub at : ℕ
  pub late : place ≤ at
  pub low : at < length edges
  pub inner : Contains nodes (tree_edge_at edges at).inner
  pub outer : Contains nodes (tree_edge_at edges at).outer
  pub is : (n ≡ (tree_edge_at edges at).inner) ⊎ (n ≡ (tree_edge_at edges at).outer)

-- a path between two outer tops over tree edges that are at a place or after it
pub record IsTreeCycle (f : Family) (root : ℕ) (edges : List TreeEdge) (cycle : List Link)
    (place head tail : ℕ) : Type 0 where
  pub path : IsPath f cycle head tail
  pub within : place ≤ length edges
  pub odd : length cycle % 2 ≡ 1
  pub differ : Differ (nodes_of cycle)
  pub spot : (n : ℕ) → Contains (nodes_of cycle) n → (n ≡ head) ⊎ IsSpot edges (nodes_of cycle) place n
  pub head_at : (j : ℕ) × (j ≤ place) × (slice_index (outers root edges) j ≡ head)
  pub tail_at : (j : ℕ) × (j ≤ place) × (slice_index (outers root edges) j ≡ tail)
  pub some : head ≡ tail → 2 ≤ length cycle

-- the tree's edges and pairs are tight, and costs are symmetric
pub record HasTight (f : Family) (cost : ℕ → ℕ → ℕ) (edges : List TreeEdge) : Type 0 where
  pub up : (i : ℕ) → i < length edges → IsTight f cost (tree_edge_at edges i).up.from (tree_edge_at edges i).up.to
  pub pair : (i : ℕ) → i < length edges → IsTight f cost (tree_edge_at edges i).pair.from (tree_edge_at edges i).pair.to
  pub symmetric : (a b : ℕ) → a < leaf_count f → b < leaf_count f → cost a b ≡ cost b a
