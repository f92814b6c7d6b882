use Rattle.std.proofs.Common.{◌≡◌, map, take}
use Rattle.serde_json.specs.View.{view}
use Rattle.sg_report.specs.ReportValue.{name_value}
use Rattle.sg_report.proofs.report.name_values.Given as goal

-- the values of the numbers so far
abbrev pub invariant-loop-name : goal.invariant-loop-name
invariant-loop-name l = map view l.found.items ≡ map name_value (take l.name-index l.names)
