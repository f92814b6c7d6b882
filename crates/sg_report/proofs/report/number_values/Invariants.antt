use Rattle.std.proofs.Common.{◌≡◌, map, take}
use Rattle.serde_json.specs.View.{view}
use Rattle.sg_report.specs.ReportValue.{whole_value}
use Rattle.sg_report.proofs.report.number_values.Given as goal

-- the values of the numbers so far
abbrev pub invariant-loop-number : goal.invariant-loop-number
invariant-loop-number l = map view l.found.items ≡ map whole_value (take l.number-index l.numbers)
