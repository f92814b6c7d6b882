-- The pairs after an augmentation.
use Rattle.std.specs.Prelude.{◌≡◌, ◌≢◌, ℕ, ◌<◌, List, length, Option, None}
use Rattle.sg_arena.specs.Family.{Family, Holds, leaf_count, IsTop}
use Rattle.sg_slack.specs.Tight.{IsTight}
use Rattle.sg_match.specs.Pairs.{pair_of, IsPaired}
use Rattle.sg_match.specs.Tree.{IsOuterLeaf, IsTree, IsOut}
use Rattle.sg_match.specs.declared.Edge.{Edge}
use Rattle.sg_match.specs.declared.TreeEdge.{TreeEdge}

-- the two tops of a tree edge, and the leaf where it ends
pub record HasTwoTops (f : Family) (tree_edge : TreeEdge) : Type 0 where
  pub inner : IsTop f tree_edge.inner
  pub outer : IsTop f tree_edge.outer
  pub to : tree_edge.up.to < leaf_count f

-- a tight pair from a leaf of an outer top to one of an unpaired top outside the tree
pub record CanAugment (f : Family) (cost : ℕ → ℕ → ℕ) (pairs : List (Option Edge)) (root : ℕ) (edges : List TreeEdge)
    (u v : ℕ) : Type 0 where
  pub paired : IsPaired f (IsTight f cost) pairs
  pub tree : IsTree f cost pairs root edges
  pub symmetric : (a b : ℕ) → a < leaf_count f → b < leaf_count f → cost a b ≡ cost b a
  pub outer : IsOuterLeaf f root edges u
  pub exposed : (t : ℕ) → IsTop f t → Holds f t v → IsOut root edges t × (pair_of pairs t ≡ None)
  pub tight : IsTight f cost u v

-- a pairing in which the root and the top of a leaf are paired too, and no other
pub record IsAugmented (f : Family) (cost : ℕ → ℕ → ℕ) (old new : List (Option Edge)) (root v : ℕ) : Type 0 where
  pub length : length new ≡ length old
  pub paired : IsPaired f (IsTight f cost) new
  pub fewer : (n : ℕ) → pair_of new n ≡ None →
      (pair_of old n ≡ None) × (n ≢ root) × ((IsTop f n × Holds f n v) → ⊥)
  pub others : (n : ℕ) → IsTop f n → pair_of old n ≡ None → n ≢ root → (Holds f n v → ⊥) →
      pair_of new n ≡ None
