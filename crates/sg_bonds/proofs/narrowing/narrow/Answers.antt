use Rattle.sg_bonds.proofs.NarrowedBounds.{narrows_through}
use Rattle.sg_bonds.proofs.narrowing.narrow.Goals as goal

pub loop-preserved : goal.loop-preserved
loop-preserved c = record {
  states = c.in_ok-settle-in-Some.ensures.states;
  narrows = narrows_through c.args.study.now.planar.now.instance c.args.bounds.now c.loop.bounds c.settle.new.bounds c.loop.invariant.narrows
      c.in_ok-settle-in-Some.ensures.narrows;
}
