use Rattle.sg_bonds.proofs.Common.{rules, ◌≡◌, ◌∙◌, ap, pos, w64, to_z, of_z, to_z-of_z, ◌+ℤ◌, ◌-ℤ◌, Ising, weight}
use Rattle.sg_bonds.proofs.TurnedBonds.{broken_least, join_broken, join_light}
use Rattle.sg_bonds.proofs.states.broken_by.Goals as goal

pub broken_energy-energy-requires-clause-light : goal.broken_energy-energy-requires-clause-light
broken_energy-energy-requires-clause-light c = rw (to_z-of_z {w = w64} {z = c.args.join.weight} (search rules))
    (join_light c.args.planar.now c.instance.ensures.planar c.args.join.edges c.requires.join.join c.args.join.weight c.requires.weight)

value : (c : goal.After-broken_energy-energy) → to_z w64 (of_z w64 c.broken_energy-energy.result)
    ≡ (c.args.join.weight +ℤ c.args.join.weight) -ℤ pos (weight c.args.planar.now.instance)
value c =
    let fits = to_z-of_z {w = w64} {z = c.args.join.weight} (search rules) in
    to_z-of_z {w = w64} {z = c.broken_energy-energy.result} (search rules) ∙ (rw fits at c.broken_energy-energy.ensures)
    ∙ ap (λ (i : Ising). (c.args.join.weight +ℤ c.args.join.weight) -ℤ pos (weight i)) c.instance.ensures.value

pub returns-clause-least : goal.returns-clause-least
returns-clause-least c = λ x up side.
    broken_least c.args.planar.now c.instance.ensures.planar c.args.join.edges c.requires.join.join c.args.join.weight c.requires.weight
    c.requires.connected (to_z w64 (of_z w64 c.broken_energy-energy.result)) (value c) c.args.bond c.requires.bond_in c.args.has c.requires.join x up side

pub returns-clause-breaks : goal.returns-clause-breaks
returns-clause-breaks c =
    join_broken c.args.planar.now c.instance.ensures.planar c.args.join.edges c.requires.join.join c.args.join.weight c.requires.weight
    c.requires.connected (to_z w64 (of_z w64 c.broken_energy-energy.result)) (value c)
