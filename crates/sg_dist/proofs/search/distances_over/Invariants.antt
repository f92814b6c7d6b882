use Rattle.std.proofs.Common.{◌+◌, ◌-◌, ◌*◌, ◌≡◌}
use Rattle.std.specs.BinaryHeap.{IsHeap, heap_items, heap_len}
use Rattle.sg_graph.specs.Web.{edge_count}
use Rattle.sg_dist.specs.Order.{nearest_last}
use Rattle.sg_dist.specs.Search.{Searches, candidates, reached_count}
use Rattle.sg_dist.proofs.search.distances_over.Given as goal

abbrev pub invariant-loop-candidate : goal.invariant-loop-candidate
invariant-loop-candidate l = record {
  searching : Searches l.web l.table (candidates (heap_items l.heap));
  order : IsHeap nearest_last (heap_items l.heap);
  source : l.table.source ≡ l.source;
}

-- the nodes that are not found, each with room for candidates over all edges, and the candidates
abbrev pub decreases-loop-candidate : goal.decreases-loop-candidate
decreases-loop-candidate l = (l.web.nodes - reached_count l.table) * (edge_count l.web + 1) + heap_len l.heap
