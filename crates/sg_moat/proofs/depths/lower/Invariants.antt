-- The depths of the nodes before the next are lowered.
use Rattle.sg_moat.specs.Depths.{Lowers}
use Rattle.sg_moat.proofs.depths.lower.Given as goal

abbrev pub invariant-loop-x : goal.invariant-loop-x
invariant-loop-x l = Lowers l.table l.inner l.x l.initial.depths l.depths
