-- By how much the duals of the tree may change.
use Rattle.std.specs.Prelude.{◌≢◌, ℕ, ◌+◌, ◌*◌, ◌<◌, ◌≤◌, List, length, slice_index}
use Rattle.sg_arena.specs.Family.{Family, Holds, IsBlossom, dual_of, leaf_count}
use Rattle.sg_arena.specs.Slack.{duals_between}
use Rattle.sg_match.specs.Tree.{outers, inners, IsOuterLeaf, IsFreeLeaf}
use Rattle.sg_match.specs.declared.TreeEdge.{TreeEdge}

-- a raise of the outer duals by this leaves no slack negative
pub record KeepsSlacks (f : Family) (cost : ℕ → ℕ → ℕ) (root : ℕ) (edges : List TreeEdge) (delta : ℕ)
    : Type 0 where
  pub free : (u v : ℕ) → u < leaf_count f → v < leaf_count f → IsOuterLeaf f root edges u →
      IsFreeLeaf f root edges v → duals_between f u v + delta ≤ cost u v
  pub between : (u v i j : ℕ) → u < leaf_count f → v < leaf_count f →
      i < length (outers root edges) → j < length (outers root edges) → i ≢ j →
      Holds f (slice_index (outers root edges) i) u → Holds f (slice_index (outers root edges) j) v →
      duals_between f u v + 2 * delta ≤ cost u v

-- nor a fall of the inner ones the dual of a blossom
pub record CanChangeDuals (f : Family) (cost : ℕ → ℕ → ℕ) (root : ℕ) (edges : List TreeEdge) (delta : ℕ)
    : Type 0 where
  pub slacks : KeepsSlacks f cost root edges delta
  pub blossoms : (i : ℕ) → i < length (inners edges) → IsBlossom f (slice_index (inners edges) i) →
      delta ≤ dual_of f (slice_index (inners edges) i)
