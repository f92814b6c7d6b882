use Rattle.std.proofs.Common.{◌≡◌, map}
use Rattle.std.specs.List.{range_with_len}
use Rattle.sg_calls.specs.Networks.{edge_by}
use Rattle.sg_calls.proofs.networks.edges_of.Given as goal

-- the edges so far
abbrev pub invariant-loop-k : goal.invariant-loop-k
invariant-loop-k l = l.edges ≡ map (edge_by l.ends l.weights) (range_with_len 0 l.k)
