-- The walks of the pairs before the next are turned.
use Rattle.sg_tjoin.specs.Turns.{AreTurned}
use Rattle.sg_tjoin.proofs.walks.odd_edges.Given as goal

abbrev pub invariant-loop-i : goal.invariant-loop-i
invariant-loop-i l = AreTurned l.web l.terminals l.tables l.mates l.i l.odd.items
