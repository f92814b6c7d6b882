use Rattle.sg_bonds.proofs.Common.{sym, subst, arith, get_or_default}
use Rattle.sg_bonds.specs.Bounds.{IsKnown, bound_at}
use Rattle.sg_bonds.proofs.NarrowedBounds.{known_more, narrows_through}
use Rattle.sg_bonds.proofs.narrowing.settle_all.Goals as goal

pub loop-bond-preserved : goal.loop-bond-preserved
loop-bond-preserved c = record {
  states = c.in_ok-settle.ensures.states;
  narrows = narrows_through c.args.study.now.planar.now.instance c.args.bounds.now c.loop-bond.bounds c.settle.new.bounds c.loop-bond.invariant.narrows
      c.in_ok-settle.ensures.narrows;
  known = known_more c.args.study.now.planar.now.instance c.args.bounds.now c.loop-bond.bounds c.settle.new.bounds c.args.asked.now
      c.loop-bond.bond-index c.loop-bond-test.true c.requires.asked c.loop-bond.invariant.narrows c.in_ok-settle.ensures.narrows
      c.loop-bond.invariant.known c.in_ok-settle.ensures.known;
}

pub returns-clause-known : goal.returns-clause-known
returns-clause-known c = λ are k d l.
    subst (λ i. IsKnown c.args.study.now.planar.now.instance i (bound_at c.loop-bond.bounds i)) (sym (get_or_default c.args.asked.now k d 0 l))
    (c.loop-bond.invariant.known are k (omega (arith, l, c.loop-bond-test.false, c.loop-bond.auto.bond-index-end)))
