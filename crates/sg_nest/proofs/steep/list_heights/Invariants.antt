use Rattle.std.proofs.Common.{◌≡◌, take, map}
use Rattle.sg_nest.specs.Slopes.{counted_heights}
use Rattle.sg_nest.proofs.steep.list_heights.Given as goal

abbrev pub invariant-loop-place : goal.invariant-loop-place
invariant-loop-place l = l.over.items ≡ map (counted_heights l.nest) (take l.place-index l.place-items)
