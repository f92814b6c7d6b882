use Rattle.std.proofs.Common.{◌≡◌, map}
use Rattle.std.specs.List.{range_with_len}
use Rattle.sg_calls.specs.Crossing.{entry}
use Rattle.sg_calls.specs.Proofs.{region_numbered}
use Rattle.sg_calls.proofs.nests.regions_by.Given as goal

-- those so far
abbrev pub invariant-loop-r : goal.invariant-loop-r
invariant-loop-r l =
    l.list ≡ map (λ i. region_numbered (entry l.parents i) (entry l.radii i)) (range_with_len 0 l.r)
