use Rattle.std.proofs.Common.{rules, to_z-of_z, w64}
use Rattle.sg_model.specs.Energy.{IsLeastEnergy}
use Rattle.sg_ground.proofs.WeighedJoins.{least_by_weight, least_size}
use Rattle.sg_ground.proofs.least.energy_of_whole.Goals as goal
use Rattle.sg_ground.proofs.least.energy_of_whole.Goals.{After-broken_energy}

least : (c : After-broken_energy) → IsLeastEnergy c.args.planar.now.instance c.broken_energy.result
least c =
    let join = c.in_ok-join.join in
    least_by_weight c.args.planar.now c.instance.ensures.planar c.requires.connected join.edges join.weight c.in_ok-join.ensures.join
    c.broken_energy.result (rw (to_z-of_z {w = w64} {z = join.weight} (search rules), c.instance.ensures.value) at c.broken_energy.ensures)

pub returns-clause-least : goal.returns-clause-least
returns-clause-least c =
    rw (to_z-of_z {w = w64} {z = c.broken_energy.result} (search rules)) (least (goal.at.returns-clause-least c).After-broken_energy)

pub returns-clause-size : goal.returns-clause-size
returns-clause-size c =
    rw (to_z-of_z {w = w64} {z = c.broken_energy.result} (search rules))
    (least_size c.args.planar.now.instance c.broken_energy.result c.instance.ensures.planar.instance
    (least (goal.at.returns-clause-size c).After-broken_energy))
