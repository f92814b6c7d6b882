use Rattle.std.proofs.Common.{ℕ, ◌<◌}
use Rattle.sg_check.specs.Loop.{IsOddlyNegative}
use Rattle.sg_check.specs.Verdict.{loop_at}
use Rattle.sg_check.proofs.loops.first_unfrustrated.Given as goal

abbrev pub invariant-loop-i : goal.invariant-loop-i
invariant-loop-i l = (k : ℕ) → k < l.i → IsOddlyNegative l.inst (loop_at l.loops k).bonds
