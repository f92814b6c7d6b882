-- The rows before the next fit.
use Rattle.sg_web_rows.proofs.TotalSlacks.{DoTotalsFit}
use Rattle.sg_web_rows.proofs.moats.totals_fit.Given as goal

abbrev pub invariant-loop-i : goal.invariant-loop-i
invariant-loop-i l = DoTotalsFit l.family l.terminals l.tables l.i
