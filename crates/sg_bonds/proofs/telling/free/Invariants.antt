use Rattle.sg_bonds.specs.Told.{AreTold}
use Rattle.sg_bonds.proofs.telling.free.Given as goal

abbrev pub invariant-loop-k : goal.invariant-loop-k
invariant-loop-k l = AreTold l.inst l.told
