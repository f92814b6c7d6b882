use Rattle.std.proofs.Common.{take}
use Rattle.sg_graph.specs.Search.{VisitsEdges}
use Rattle.sg_graph.proofs.search.visit.Given as goal

abbrev pub invariant-loop-k : goal.invariant-loop-k
invariant-loop-k l = VisitsEdges l.web l.node (take l.k-index l.edges_here) l.initial.marks.items l.marks.items l.initial.found.items l.found.items
