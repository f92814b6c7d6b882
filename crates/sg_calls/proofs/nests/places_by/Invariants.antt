use Rattle.std.proofs.Common.{◌≡◌, map}
use Rattle.std.specs.List.{range_with_len}
use Rattle.sg_calls.specs.Crossing.{entry}
use Rattle.sg_calls.specs.Proofs.{place_numbered}
use Rattle.sg_calls.proofs.nests.places_by.Given as goal

-- those so far
abbrev pub invariant-loop-x : goal.invariant-loop-x
invariant-loop-x l =
    l.list ≡ map (λ i. place_numbered (entry l.regions i) (entry l.at_radii i)) (range_with_len 0 l.x)
