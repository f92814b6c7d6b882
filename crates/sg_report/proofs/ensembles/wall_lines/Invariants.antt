use Rattle.std.proofs.Common.{◌≡◌, take}
use Rattle.std.specs.List.{flat_map, enumerate_from}
use Rattle.sg_report.specs.Ensembles.{sample_line}
use Rattle.sg_report.proofs.ensembles.wall_lines.Given as goal

-- the lines of the samples so far
abbrev pub invariant-loop-sample : goal.invariant-loop-sample
invariant-loop-sample l = l.text.items ≡ flat_map (λ p. sample_line p.0 p.1) (take l.sample (enumerate_from 0 l.walls))
