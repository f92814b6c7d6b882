use Rattle.sg_planar.specs.Walk.{has}
use Rattle.sg_planar.specs.Search.{SearchedTo}
use Rattle.sg_planar.proofs.breadth_first.walk.Given as goal

abbrev pub invariant-loop-next : goal.invariant-loop-next
invariant-loop-next l = SearchedTo l.inst (has l.set) l.root l.fn.marks l.marks l.order.items l.next
