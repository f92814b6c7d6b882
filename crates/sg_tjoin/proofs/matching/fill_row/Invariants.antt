-- The costs of the terminals before the next.
use Rattle.sg_tjoin.specs.Doubled.{FillsRow}
use Rattle.sg_tjoin.proofs.matching.fill_row.Given as goal

abbrev pub invariant-loop-j : goal.invariant-loop-j
invariant-loop-j l = FillsRow l.terminals l.table l.i l.j l.initial.costs l.costs
