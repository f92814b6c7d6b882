use Rattle.std.proofs.Common.{◌≡◌, map, take}
use Rattle.serde_json.specs.View.{view}
use Rattle.sg_report.specs.ReportValue.{loop_value}
use Rattle.sg_report.proofs.report.loop_values.Given as goal

-- the values of the loops so far
abbrev pub invariant-loop-entry : goal.invariant-loop-entry
invariant-loop-entry l = map view l.found.items ≡ map loop_value (take l.entry-index l.loops)
