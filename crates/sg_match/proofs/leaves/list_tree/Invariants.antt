-- `list_tree`: the tops of the tree edges so far.
use Rattle.std.proofs.Common.{◌≡◌, take, vec_capacity}
use Rattle.sg_match.proofs.leaves.list_tree.Given as goal
use Rattle.sg_match.specs.Tree.{inners, outers}

abbrev pub invariant-loop-tree_edge : goal.invariant-loop-tree_edge
invariant-loop-tree_edge l = record {
  outer : l.outer.items ≡ outers l.root (take l.tree_edge-index l.edges);
  inner : l.inner.items ≡ inners (take l.tree_edge-index l.edges);
  outer_room : vec_capacity l.outer ≡ vec_capacity l.fn.outer;
  inner_room : vec_capacity l.inner ≡ vec_capacity l.fn.inner;
}
