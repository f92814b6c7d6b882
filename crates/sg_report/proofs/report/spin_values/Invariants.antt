use Rattle.std.proofs.Common.{◌≡◌, map, take}
use Rattle.serde_json.specs.View.{view}
use Rattle.sg_report.specs.ReportValue.{whole_value}
use Rattle.sg_report.proofs.report.spin_values.Given as goal

-- the values of the numbers so far
abbrev pub invariant-loop-spin : goal.invariant-loop-spin
invariant-loop-spin l = map view l.found.items ≡ map whole_value (take l.spin-index l.spins)
