-- Inner blossoms of dual 0, which a raise may not lower.
use Rattle.std.specs.Prelude.{◌≡◌, ℕ, ◌<◌, ◌≤◌, List, length}
use Rattle.sg_arena.specs.Family.{Family, IsBlossom, dual_of}
use Rattle.sg_match.specs.Tree.{tree_edge_at}
use Rattle.sg_match.specs.declared.TreeEdge.{TreeEdge}

-- an inner top that is a blossom of dual 0
pub record IsInnerZero (f : Family) (edges : List TreeEdge) (node : ℕ) : Type 0 where
  pub place : ℕ
  pub within : place < length edges
  pub here : (tree_edge_at edges place).inner ≡ node
  pub blossom : IsBlossom f node
  pub inner_zero : dual_of f node ≡ 0

-- the least name of such a blossom
pub record IsLeastInnerZero (f : Family) (edges : List TreeEdge) (node : ℕ) : Type 0 where
  pub inner_zero : IsInnerZero f edges node
  pub least : (other : ℕ) → IsInnerZero f edges other → node ≤ other
