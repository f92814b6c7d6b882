use Rattle.std.proofs.Common.{arith}
use Rattle.sg_check.proofs.OddSpins.{is_marked_more}
use Rattle.sg_check.proofs.spins.flip_ends.Goals as goal

pub loop-k-preserved : goal.loop-k-preserved
loop-k-preserved c = λ i l. is_marked_more c.args.inst.now _ _ _ _ _ _ i
    c.loop-k-test.true c.bond_of-bond.ensures.value c.bond_of-bond.ensures.bond.ends_differ (c.loop-k.invariant i l)
    (c.flip.ensures i (omega (arith, c.loop-k.auto.marks, c.requires.lengths)))
