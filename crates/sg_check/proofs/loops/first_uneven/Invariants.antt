use Rattle.std.proofs.Common.{◌≡◌, ℕ, ◌<◌}
use Rattle.sg_check.specs.Loop.{IsEven}
use Rattle.sg_check.specs.Verdict.{loop_at}
use Rattle.sg_check.proofs.loops.first_uneven.Given as goal

abbrev pub invariant-loop-i : goal.invariant-loop-i
invariant-loop-i l = record { earlier : (k : ℕ) → k < l.i → IsEven l.inst (loop_at l.loops k).bonds; marks : l.marks ≡ l.initial.marks }
