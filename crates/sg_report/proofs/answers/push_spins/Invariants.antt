use Rattle.std.proofs.Common.{◌≡◌, ◌++◌, take, flat_map}
use Rattle.sg_report.specs.Line.{listed_number}
use Rattle.sg_report.proofs.answers.push_spins.Given as goal

-- the entries of the spins so far
abbrev pub invariant-loop-value : goal.invariant-loop-value
invariant-loop-value l = l.text.items ≡ l.initial.text.items ++ flat_map listed_number (take l.value-index l.spins)
