use Rattle.std.proofs.Common.{◌≡◌, take}
use Rattle.std.specs.List.{flat_map, enumerate_from}
use Rattle.sg_report.specs.Text.{listed_int}
use Rattle.sg_report.specs.Ranges.{turn_line}
use Rattle.sg_report.proofs.ranges.ranges_text.Given as goal

-- the lines of the bonds so far
abbrev pub invariant-loop-bond : goal.invariant-loop-bond
invariant-loop-bond l = l.text.items ≡ flat_map (λ p. turn_line p.0 (listed_int l.couplings p.0) p.1) (take l.bond (enumerate_from 0 l.turns))
