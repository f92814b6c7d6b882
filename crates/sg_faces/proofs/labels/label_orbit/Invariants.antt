use Rattle.sg_faces.proofs.OrbitWalks.{Walking, left_over}
use Rattle.sg_faces.proofs.labels.label_orbit.Given as goal

abbrev pub invariant-loop-labels : goal.invariant-loop-labels
invariant-loop-labels l = Walking l.table l.initial.labels l.labels l.start l.label l.at

abbrev pub decreases-loop-labels : goal.decreases-loop-labels
decreases-loop-labels l = left_over l.labels
