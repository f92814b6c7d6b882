use Rattle.std.proofs.Common.{◌∙◌}
use Rattle.sg_bonds.proofs.NarrowedBounds.{narrows_through}
use Rattle.sg_bonds.proofs.enclosing.weaken_all.Goals as goal

pub loop-preserved : goal.loop-preserved
loop-preserved c = record {
  amounts = c.weaken_once.ensures.amounts ∙ c.renew.ensures ∙ c.loop.invariant.amounts;
  narrows = narrows_through c.args.study.now.planar.now.instance c.args.bounds.now c.loop.bounds c.weaken_once.new.bounds c.loop.invariant.narrows
      c.weaken_once.ensures.narrows;
}

pub returns-in_err-turn-2-clause-narrows : goal.returns-in_err-turn-2-clause-narrows
returns-in_err-turn-2-clause-narrows c =
    narrows_through c.args.study.now.planar.now.instance c.args.bounds.now c.loop.bounds c.weaken_once.new.bounds c.loop.invariant.narrows
    c.weaken_once.ensures.narrows
