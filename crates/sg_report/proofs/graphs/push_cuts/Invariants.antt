use Rattle.std.proofs.Common.{◌≡◌, ◌++◌, take, flat_map}
use Rattle.sg_report.specs.Graphs.{cut_line}
use Rattle.sg_report.proofs.graphs.push_cuts.Given as goal

-- the lines of the cuts so far
abbrev pub invariant-loop-cut : goal.invariant-loop-cut
invariant-loop-cut l = l.text.items ≡ l.initial.text.items ++ flat_map cut_line (take l.cut-index l.cuts)
