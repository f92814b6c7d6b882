use Rattle.sg_bonds.specs.Told.{AreTold}
use Rattle.sg_bonds.proofs.telling.tell.Given as goal

abbrev pub invariant-loop : goal.invariant-loop
invariant-loop l = AreTold l.study.planar.now.instance l.told
