use Rattle.std.proofs.Common.{length}
use Rattle.sg_reader.proofs.EndedLaws.{TakenSoFar}
use Rattle.sg_reader.proofs.ended.read_to_end.Given as goal

-- the records so far were taken
abbrev pub invariant-loop-row : goal.invariant-loop-row
invariant-loop-row g l = TakenSoFar g.B.Gather.tests g.B.Gather.holds l.fn.body l.fn.rows l.rows l.body

abbrev pub decreases-loop-row : goal.decreases-loop-row
decreases-loop-row g l = length l.rows
