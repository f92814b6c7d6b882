-- The rows before the next.
use Rattle.sg_tjoin.specs.Doubled.{FillsRows}
use Rattle.sg_tjoin.proofs.matching.doubled_distances.Given as goal

abbrev pub invariant-loop-i : goal.invariant-loop-i
invariant-loop-i l = FillsRows l.terminals l.tables l.i l.costs
