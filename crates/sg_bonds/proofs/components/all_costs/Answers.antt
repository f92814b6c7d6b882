use Rattle.std.proofs.Common.{rules, ◌∙◌, sym, subst}
use Rattle.sg_bonds.specs.Cost.{AreCosts}
use Rattle.sg_bonds.proofs.NarrowedBounds.{all_below, costs_of_all, forced_fit}
use Rattle.sg_bonds.proofs.components.all_costs.Goals as goal

pub costs_of-requires-clause-asked : goal.costs_of-requires-clause-asked
costs_of-requires-clause-asked c = all_below c.args.planar.now.instance c.args.asked.now c.requires.count c.requires.each

pub returns-in_ok-lower_bounds-in-Ok : goal.returns-in_ok-lower_bounds-in-Ok
returns-in_ok-lower_bounds-in-Ok c =
    subst (AreCosts c.args.planar.now.instance) (sym (c.from_vec.ensures ∙ c.in_ok-lower_bounds-in-Ok.ensures))
    (costs_of_all c.args.planar.now.instance c.args.asked.now c.requires.count c.requires.each c.costs_of.new.bounds
    (c.in-Ok.ensures.narrows.count ∙ c.requires.bounds.count) (c.in-Ok.ensures.known c.requires.bounds))

pub unreachable-requires : goal.unreachable-requires
unreachable-requires c = forced_fit c.args.planar.now.instance (search rules)
