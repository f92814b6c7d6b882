-- `derive_mates`: the leaves so far have their mates.
use Rattle.std.proofs.Common.{get_or, length, vec_capacity, ℕ, ◌<◌, ◌≡◌}
use Rattle.sg_match.proofs.mates.derive_mates.Given as goal
use Rattle.sg_match.specs.MatePairs.{IsMate}

abbrev pub invariant-loop-leaf : goal.invariant-loop-leaf
invariant-loop-leaf l = record {
  count : length l.mates ≡ length l.fn.mates;
  room : vec_capacity l.ring ≡ vec_capacity l.fn.ring;
  written : (k : ℕ) → k < l.leaf → IsMate l.arena l.pairs k (get_or l.mates k 0);
}
