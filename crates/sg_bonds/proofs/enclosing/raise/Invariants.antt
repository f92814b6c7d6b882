use Rattle.sg_bonds.specs.Bounds.{Narrows}
use Rattle.sg_bonds.proofs.enclosing.raise.Given as goal

abbrev pub invariant-loop-k : goal.invariant-loop-k
invariant-loop-k l = Narrows l.study.planar.now.instance l.initial.bounds l.bounds
