use Rattle.std.proofs.Common.{◌≡◌, ℕ, ◌<◌, false}
use Rattle.sg_base.specs.Sets.{is_marked}
use Rattle.sg_planar.proofs.fitting.all_unmarked.Given as goal

abbrev pub invariant-loop-mark : goal.invariant-loop-mark
invariant-loop-mark l = (i : ℕ) → i < l.mark-index → is_marked l.marks i ≡ false
