use Rattle.sg_bonds.specs.Bounds.{Narrows}
use Rattle.sg_bonds.proofs.flipping.note_parts.Given as goal

abbrev pub invariant-loop-k : goal.invariant-loop-k
invariant-loop-k l = Narrows l.inst l.initial.bounds l.bounds
