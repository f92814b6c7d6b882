use Rattle.std.proofs.Common.{◌+◌, ◌-◌, length}
use Rattle.sg_graph.specs.Search.{unmarked}
use Rattle.sg_graph.proofs.Searching.{Explores}
use Rattle.sg_graph.proofs.search.marks_from_first.Given as goal

abbrev pub invariant-loop-next : goal.invariant-loop-next
invariant-loop-next l = Explores l.web l.marks.items l.found.items l.next

abbrev pub decreases-loop-next : goal.decreases-loop-next
decreases-loop-next l = (unmarked l.marks.items + length l.found.items) - l.next
