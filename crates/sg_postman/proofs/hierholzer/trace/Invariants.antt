-- A trail in the making, until nothing is left at node 0.
use Rattle.std.proofs.Common.{◌≡◌, ◌+◌, false, cond, []}
use Rattle.sg_graph.specs.Stretches.{lists_of}
use Rattle.sg_postman.specs.Tracing.{AreTried, IsTracing, IsUsedUp, left_of, to_go}
use Rattle.sg_postman.proofs.hierholzer.trace.Given as goal

abbrev pub invariant-loop-going : goal.invariant-loop-going
invariant-loop-going l = record {
  tracing : IsTracing l.web (left_of l.fn.left) l.left l.out.items l.back.items;
  tried : AreTried (lists_of l.incidence-inside.stretches.items l.incidence-inside.edges.items) l.left l.tried.items;
  done : l.going ≡ false → (l.out.items ≡ []) × IsUsedUp l.web l.left 0;
}

abbrev pub decreases-loop-going : goal.decreases-loop-going
decreases-loop-going l = to_go l.left l.out.items + cond l.going 1 0
