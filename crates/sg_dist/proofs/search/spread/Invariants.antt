use Rattle.std.proofs.Common.{◌+◌, ◌≤◌, take}
use Rattle.std.specs.BinaryHeap.{KeepsHeap, heap_items, heap_len}
use Rattle.sg_dist.specs.Order.{nearest_last}
use Rattle.sg_dist.specs.Search.{Spreads, candidates}
use Rattle.sg_dist.proofs.search.spread.Given as goal

abbrev pub invariant-loop-k : goal.invariant-loop-k
invariant-loop-k l = record {
  searching : Spreads l.web l.table (candidates (heap_items l.heap)) l.node (take l.k-index l.edges_here);
  order : KeepsHeap nearest_last (heap_items l.initial.heap) (heap_items l.heap);
  few : heap_len l.heap ≤ heap_len l.initial.heap + l.k-index;
}
