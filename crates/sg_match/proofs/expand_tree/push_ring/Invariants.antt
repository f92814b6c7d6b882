-- `push_ring`: the tree edges so far and those of the rest of the ring are those of the whole.
use Rattle.std.proofs.Common.{◌≡◌, ◌+◌, ◌-◌, ◌≤◌, ◌++◌, drop, length, vec_capacity}
use Rattle.sg_arena.specs.Family.{link_at}
use Rattle.sg_match.proofs.expand_tree.push_ring.Given as goal
use Rattle.sg_match.specs.ExpandedTree.{ring_edges, ring_start}

abbrev pub invariant-loop-i : goal.invariant-loop-i
invariant-loop-i l = record {
  low : l.i ≤ length l.ring;
  count : length l.edges.items ≤ length l.fn.edges.items + l.i;
  room : vec_capacity l.edges ≡ vec_capacity l.fn.edges;
  rest : l.edges.items ++ ring_edges l.tree_edge (link_at l.ring 0).node l.up (drop l.i l.ring) ≡
      l.fn.edges.items ++ ring_edges l.tree_edge (link_at l.ring 0).node l.tree_edge.up (drop (ring_start l.entry (length l.ring)) l.ring);
}

abbrev pub decreases-loop-i : goal.decreases-loop-i
decreases-loop-i l = length l.ring - l.i
