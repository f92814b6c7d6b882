use Rattle.std.proofs.Common.{◌≡◌, map}
use Rattle.std.specs.List.{range_with_len}
use Rattle.sg_calls.specs.Crossing.{entries_of}
use Rattle.sg_calls.proofs.graphs.rotation_of.Given as goal

-- the darts of the spins so far
abbrev pub invariant-loop-spin : goal.invariant-loop-spin
invariant-loop-spin l = l.rotation ≡ map (entries_of l.starts l.darts) (range_with_len 0 l.spin)
