use Rattle.std.proofs.Common.{◌≡◌, ◌++◌, take, flat_map}
use Rattle.sg_report.specs.Line.{listed_number}
use Rattle.sg_report.proofs.samples.push_all.Given as goal

-- the entries of the numbers so far
abbrev pub invariant-loop-number : goal.invariant-loop-number
invariant-loop-number l = l.text.items ≡ l.initial.text.items ++ flat_map listed_number (take l.number-index l.numbers)
