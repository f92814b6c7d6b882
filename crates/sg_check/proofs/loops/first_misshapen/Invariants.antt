use Rattle.std.proofs.Common.{ℕ, ◌<◌}
use Rattle.sg_check.specs.Verdict.{HasShape, loop_at}
use Rattle.sg_check.proofs.loops.first_misshapen.Given as goal

abbrev pub invariant-loop-i : goal.invariant-loop-i
invariant-loop-i l = (k : ℕ) → k < l.i → HasShape l.inst (loop_at l.loops k)
