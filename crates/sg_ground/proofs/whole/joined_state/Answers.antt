use Rattle.std.proofs.Common.{rules, to_z-of_z, w64}
use Rattle.sg_ground.proofs.JoinFits.{join_below, join_fits}
use Rattle.sg_ground.proofs.WeighedJoins.{state_by_weight}
use Rattle.sg_ground.proofs.whole.joined_state.Goals as goal

pub spin_walk-requires-clause-below : goal.spin_walk-requires-clause-below
spin_walk-requires-clause-below c =
    let p = c.args.planar.now in join_below p.instance p.faces c.args.edges.now c.requires.join.least.join

pub spin_walk-requires-clause-fits : goal.spin_walk-requires-clause-fits
spin_walk-requires-clause-fits c =
    let p = c.args.planar.now in join_fits p.instance p.faces c.args.edges.now c.requires.join.least.join

pub returns-clause-state : goal.returns-clause-state
returns-clause-state c =
    let found = c.in_ok-spins.ensures in
    rw (to_z-of_z {w = w64} {z = c.broken_energy-energy.result} (search rules))
    (state_by_weight c.args.planar.now c.instance-inst.ensures.planar c.requires.connected c.args.edges.now c.args.weight c.requires.join
    c.broken_energy-energy.result (rw (to_z-of_z {w = w64} {z = c.args.weight} (search rules), c.instance-inst.ensures.value) at c.broken_energy-energy.ensures)
    c.in_ok-spins.spins found.assignment found.first_up found.breaks)

pub returns-clause-breaks : goal.returns-clause-breaks
returns-clause-breaks c = search rules
