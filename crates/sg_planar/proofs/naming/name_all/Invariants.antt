use Rattle.sg_planar.specs.Walk.{has}
use Rattle.sg_planar.specs.Naming.{NamedTo}
use Rattle.sg_planar.proofs.naming.name_all.Given as goal

abbrev pub invariant-loop-spin : goal.invariant-loop-spin
invariant-loop-spin l = NamedTo l.inst (has l.set) l.marks l.names l.spin
