use Rattle.std.proofs.Common.{◌≡◌, ◌++◌, take, flat_map}
use Rattle.sg_report.specs.Text.{loop_line}
use Rattle.sg_report.proofs.answers.push_loops.Given as goal

-- the lines of the loops so far
abbrev pub invariant-loop-entry : goal.invariant-loop-entry
invariant-loop-entry l = l.text.items ≡ l.initial.text.items ++ flat_map loop_line (take l.entry-index l.loops)
