use Rattle.std.proofs.Common.{◌≡◌, take}
use Rattle.std.specs.List.{flat_map, enumerate_from}
use Rattle.sg_report.specs.Text.{listed_int}
use Rattle.sg_report.specs.Ensembles.{width_line}
use Rattle.sg_report.proofs.ensembles.widths_text.Given as goal

-- the lines of the widths so far
abbrev pub invariant-loop-place : goal.invariant-loop-place
invariant-loop-place l =
    l.text.items ≡ flat_map (λ p. width_line p.1 (listed_int l.sums p.0) (listed_int l.squares p.0)) (take l.place (enumerate_from 0 l.cols))
