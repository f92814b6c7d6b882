use Rattle.std.proofs.Common.{◌≡◌, ◌++◌, map, take}
use Rattle.sg_ground.specs.Placed.{loop_in_whole}
use Rattle.sg_ground.proofs.placed.place_loops.Given as goal

abbrev pub invariant-loop-entry : goal.invariant-loop-entry
invariant-loop-entry l = l.loops ≡ l.initial.loops ++ map (loop_in_whole l.bonds) (take l.entry-index l.part)
