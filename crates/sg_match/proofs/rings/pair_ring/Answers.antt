-- `pair_ring`: two nodes at a time are paired along a link.
use Rattle.std.proofs.Common.{◌+◌, subst, sym, arith}
use Rattle.sg_match.proofs.RingPairLemmas.{IsRingPaired-done, IsRingPairedTo, IsRingPairedTo-init, IsRingPairedTo-more}
use Rattle.sg_match.proofs.rings.pair_ring.Goals as goal

pub loop-i-init : goal.loop-i-init
loop-i-init c = record {
  within = omega arith;
  odd = omega arith;
  paired = IsRingPairedTo-init c.args.pairs.now c.args.ring.now c.args.pair c.requires.some c.requires.names c.requires.differ;
}

pub loop-i-preserved : goal.loop-i-preserved
loop-i-preserved c = record {
  within = omega (arith, c.loop-i-test.true);
  odd = omega (arith, c.loop-i.invariant.odd);
  paired = subst (λ p. IsRingPairedTo c.args.pairs.now p c.args.ring.now c.args.pair (c.loop-i.i + 2)) (sym c.pair_tops.ensures)
      (IsRingPairedTo-more c.args.pairs.now c.args.ring.now c.args.pair c.requires.some c.requires.names c.requires.differ c.loop-i.pairs c.loop-i.i
      c.loop-i.invariant.odd c.loop-i-test.true c.loop-i.invariant.paired);
}

pub returns-clause-ring_pairs : goal.returns-clause-ring_pairs
returns-clause-ring_pairs c =
    IsRingPaired-done c.args.pairs.now c.args.ring.now c.args.pair c.requires.some c.requires.names c.requires.differ c.loop-i.pairs c.loop-i.i
    (omega (arith, c.loop-i-test.false, c.loop-i.invariant.odd, c.requires.odd)) c.loop-i.invariant.paired
