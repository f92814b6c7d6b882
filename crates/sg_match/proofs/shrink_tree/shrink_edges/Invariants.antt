-- `shrink_edges`: the first i tree edges are shrunk, and those behind are as they were.
use Rattle.std.proofs.Common.{◌≡◌, ℕ, ◌≤◌, length, take, vec_capacity}
use Rattle.sg_match.proofs.shrink_tree.shrink_edges.Given as goal
use Rattle.sg_match.specs.ShrunkTree.{shrunk_edges}
use Rattle.sg_match.specs.Tree.{tree_edge_at}

abbrev pub invariant-loop-i : goal.invariant-loop-i
invariant-loop-i l = record {
  kept : l.kept ≤ l.i;
  count : length l.edges.items ≡ length l.fn.edges.items;
  room : vec_capacity l.edges ≡ vec_capacity l.fn.edges;
  same : (k : ℕ) → l.i ≤ k → tree_edge_at l.edges.items k ≡ tree_edge_at l.fn.edges.items k;
  done : take l.kept l.edges.items ≡ shrunk_edges l.arena l.blossom (take l.i l.fn.edges.items);
}
