use Rattle.std.proofs.Common.{◌≡◌, take}
use Rattle.std.specs.List.{flat_map, enumerate_from}
use Rattle.sg_report.specs.Text.{cost_line}
use Rattle.sg_report.proofs.studies.bonds_text.Given as goal

-- the lines of the bonds so far
abbrev pub invariant-loop-bond : goal.invariant-loop-bond
invariant-loop-bond l = l.text.items ≡ flat_map (λ p. cost_line p.0 p.1) (take l.bond (enumerate_from 0 l.costs))
