use Rattle.std.proofs.Common.{◌≡◌, take}
use Rattle.sg_ground.proofs.placed.spins_of.Given as goal

abbrev pub invariant-loop-value : goal.invariant-loop-value
invariant-loop-value l = l.spins ≡ take l.value-index l.values
