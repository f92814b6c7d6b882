-- The order of the heap: the greatest element is the candidate of the least distance, then node, then edge.
use Rattle.std.specs.declared.cmp.Ordering.{Ordering}
use Rattle.std.specs.declared.cmp.Reverse.{Reverse}
use Rattle.std.specs.Ordering.{nat_cmp, ordering_then}
use Rattle.sg_dist.specs.declared.candidate.Candidate.{Candidate}

-- the order of candidates in which the nearest is the greatest, and of equally near ones the least node
abbrev pub nearest_last : Reverse Candidate → Reverse Candidate → Ordering
nearest_last x y =
    ordering_then (nat_cmp y.0.distance x.0.distance)
    (ordering_then (nat_cmp y.0.node x.0.node) (nat_cmp y.0.edge x.0.edge))
