-- `pair_ring`: the nodes so far are paired.
use Rattle.std.proofs.Common.{length, ◌%◌, ◌-◌, ◌≡◌, ◌≤◌}
use Rattle.sg_match.proofs.RingPairLemmas.{IsRingPairedTo}
use Rattle.sg_match.proofs.rings.pair_ring.Given as goal

abbrev pub invariant-loop-i : goal.invariant-loop-i
invariant-loop-i l = record {
  within : l.i ≤ length l.ring;
  odd : l.i % 2 ≡ 1;
  paired : IsRingPairedTo l.fn.pairs l.pairs l.ring l.fn.pair l.i;
}

abbrev pub decreases-loop-i : goal.decreases-loop-i
decreases-loop-i l = length l.ring - l.i
