use Rattle.std.proofs.Common.{◌≡◌, map}
use Rattle.std.specs.List.{range_with_len}
use Rattle.sg_calls.specs.Graphs.{bond_by}
use Rattle.sg_calls.proofs.graphs.bonds_of.Given as goal

-- the bonds so far
abbrev pub invariant-loop-k : goal.invariant-loop-k
invariant-loop-k l = l.bonds ≡ map (bond_by l.ends l.couplings) (range_with_len 0 l.k)
