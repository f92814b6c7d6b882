use Rattle.std.proofs.Common.{◌≡◌, map, take}
use Rattle.sg_ground.specs.Placed.{numbered}
use Rattle.sg_ground.proofs.placed.bond_numbers.Given as goal

abbrev pub invariant-loop-i : goal.invariant-loop-i
invariant-loop-i l = l.numbers ≡ map (numbered l.bonds) (take l.i-index l.list)
