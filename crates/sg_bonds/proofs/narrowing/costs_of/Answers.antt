use Rattle.sg_bonds.proofs.NarrowedBounds.{narrows_through}
use Rattle.sg_bonds.proofs.narrowing.costs_of.Goals as goal

pub returns-clause-narrows : goal.returns-clause-narrows
returns-clause-narrows c =
    narrows_through c.args.planar.now.instance c.args.bounds.now c.narrow.new.bounds c.settle_all.new.bounds c.in_ok-narrow.ensures.narrows
    c.in_ok-settle_all.ensures.narrows

pub returns-clause-known : goal.returns-clause-known
returns-clause-known c = λ are. c.in_ok-settle_all.ensures.known (c.in_ok-narrow.ensures.narrows.bounds are)
