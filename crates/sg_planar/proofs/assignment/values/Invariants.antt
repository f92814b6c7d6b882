use Rattle.std.proofs.Common.{◌≡◌, map, take}
use Rattle.sg_planar.specs.Following.{value_of}
use Rattle.sg_planar.proofs.assignment.values.Given as goal

abbrev pub invariant-loop-is_down : goal.invariant-loop-is_down
invariant-loop-is_down l = l.spins ≡ map value_of (take l.is_down-index l.down)
