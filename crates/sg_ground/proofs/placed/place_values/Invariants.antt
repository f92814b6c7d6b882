use Rattle.std.proofs.Common.{take}
use Rattle.sg_ground.specs.Placed.{WritesAt}
use Rattle.sg_ground.proofs.placed.place_values.Given as goal

abbrev pub invariant-loop-i : goal.invariant-loop-i
invariant-loop-i l = WritesAt (take l.i l.places) l.part l.initial.values l.values
