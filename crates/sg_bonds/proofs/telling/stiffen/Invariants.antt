use Rattle.sg_bonds.specs.Told.{AreTold}
use Rattle.sg_bonds.proofs.telling.stiffen.Given as goal

abbrev pub invariant-loop-k : goal.invariant-loop-k
invariant-loop-k l = AreTold l.study.planar.now.instance l.told
