use Rattle.std.proofs.Common.{◌≡◌, map, take}
use Rattle.sg_calls.proofs.StartLemmas.{IsFront}
use Rattle.sg_calls.proofs.stated.loops_by.Given as goal

-- the loops so far: their bonds and their weights
abbrev pub invariant-loop-k : goal.invariant-loop-k
invariant-loop-k l = record {
  front : IsFront (λ each. each.bonds) l.loops l.starts l.bonds l.k;
  weights : map (λ each. each.y) l.loops ≡ take l.k l.weights;
}
