use Rattle.std.proofs.Common.{◌≡◌, map}
use Rattle.sg_ground.specs.Loops.{loop_of}
use Rattle.sg_ground.proofs.loops.cut_loops.Given as goal

abbrev pub invariant-loop-cut : goal.invariant-loop-cut
invariant-loop-cut l = l.loops ≡ map loop_of l.yielded
