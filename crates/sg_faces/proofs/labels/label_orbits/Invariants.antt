use Rattle.std.proofs.Common.{◌≡◌}
use Rattle.sg_faces.specs.Tables.{LabelsOrbits, least_before}
use Rattle.sg_faces.proofs.labels.label_orbits.Given as goal

abbrev pub invariant-loop-start : goal.invariant-loop-start
invariant-loop-start l = record {
  labelled : LabelsOrbits l.table l.labels.items l.start;
  counted : l.count ≡ least_before l.table l.start;
}
