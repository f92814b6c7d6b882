use Rattle.std.proofs.Common.{map, pos, ◌≡◌, ◌++◌, take, flat_map}
use Rattle.sg_report.specs.Line.{listed_number}
use Rattle.sg_report.proofs.answers.push_bonds.Given as goal

-- the entries of the bonds so far
abbrev pub invariant-loop-bond : goal.invariant-loop-bond
invariant-loop-bond l = l.text.items ≡ l.initial.text.items ++ flat_map listed_number (map pos (take l.bond-index l.bonds))
