use Rattle.std.proofs.Common.{◌≡◌, take}
use Rattle.std.specs.List.{flat_map, enumerate_from}
use Rattle.sg_report.specs.Text.{cluster_line}
use Rattle.sg_report.proofs.studies.clusters_text.Given as goal

-- the lines of the spins so far
abbrev pub invariant-loop-spin : goal.invariant-loop-spin
invariant-loop-spin l = l.text.items ≡ flat_map (λ p. cluster_line p.0 p.1) (take l.spin (enumerate_from 0 l.clusters))
