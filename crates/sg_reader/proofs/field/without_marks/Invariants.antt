use Rattle.std.proofs.Common.{◌≡◌, ◌≤◌, length}
use Rattle.sg_reader.specs.Field.{without_marks}
use Rattle.sg_reader.proofs.field.without_marks.Given as goal

-- the marks before the rest change nothing
abbrev pub invariant-loop-rest : goal.invariant-loop-rest
invariant-loop-rest l = record { same : without_marks l.fn.text ≡ without_marks l.rest; shorter : length l.rest ≤ length l.fn.text }

abbrev pub decreases-loop-rest : goal.decreases-loop-rest
decreases-loop-rest l = length l.rest
