use Rattle.std.proofs.Common.{rules, ap, w64, to_z-of_z}
use Rattle.sg_bonds.proofs.NarrowedBounds.{just, known_set, narrows_cost}
use Rattle.sg_bonds.proofs.narrowing.settle.Goals as goal

pub returns-clause-narrows : goal.returns-clause-narrows
returns-clause-narrows c =
    let fits = to_z-of_z {w = w64} {z = c.in_ok-cost.cost} (search rules) in
    narrows_cost c.args.study.now.planar.now.instance c.args.bounds.now c.cost_of.new.bounds c.in_ok-cost.ensures.narrows c.args.bond _
    c.requires.bond_in c.in_ok-cost.cost c.in_ok-cost.ensures.cost (ap just fits)

pub returns-clause-known : goal.returns-clause-known
returns-clause-known c =
    let fits = to_z-of_z {w = w64} {z = c.in_ok-cost.cost} (search rules) in
    known_set c.args.study.now.planar.now.instance c.args.bounds.now c.cost_of.new.bounds c.in_ok-cost.ensures.narrows c.args.bond _
    c.requires.bond_in c.in_ok-cost.cost c.in_ok-cost.ensures.cost (ap just fits)
