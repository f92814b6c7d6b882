use Rattle.sg_bonds.specs.Naming.{ShowsRigid}
use Rattle.sg_bonds.proofs.naming.rigid_set.Given as goal

abbrev pub invariant-loop-cost : goal.invariant-loop-cost
invariant-loop-cost l = ShowsRigid l.costs l.set.items l.cost-index
