use Rattle.sg_bonds.proofs.EvenCosts.{decides_kept}
use Rattle.sg_bonds.proofs.NarrowedBounds.{narrows_through}
use Rattle.sg_bonds.proofs.enclosing.bond_bounds.Goals as goal

pub returns-clause-narrows : goal.returns-clause-narrows
returns-clause-narrows c =
    narrows_through c.args.planar.now.instance c.args.bounds.now c.decide_all.new.bounds c.narrow_by_rounds.new.bounds c.decide_all.ensures.narrows
    c.narrow_by_rounds.ensures.narrows

pub returns-in_err-narrow_by_rounds-clause-narrows : goal.returns-in_err-narrow_by_rounds-clause-narrows
returns-in_err-narrow_by_rounds-clause-narrows c =
    narrows_through c.args.planar.now.instance c.args.bounds.now c.decide_all.new.bounds c.narrow_by_rounds.new.bounds c.decide_all.ensures.narrows
    c.narrow_by_rounds.ensures.narrows

pub returns-clause-decided : goal.returns-clause-decided
returns-clause-decided c = λ are.
    decides_kept c.args.planar.now.instance c.instance-instance.ensures.planar.instance c.requires.sum c.decide_all.new.bounds c.narrow_by_rounds.new.bounds
    c.narrow_by_rounds.ensures.narrows (c.decide_all.ensures.narrows.bounds are) (c.in_ok-decide_all.ensures.decided are)
