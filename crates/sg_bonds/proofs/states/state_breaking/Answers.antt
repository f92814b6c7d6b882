use Rattle.std.proofs.Common.{sym}
use Rattle.sg_ground.proofs.JoinFits.{join_below, join_fits}
use Rattle.sg_ground.proofs.Solutions.{cast_energy, energy_fits}
use Rattle.sg_bonds.proofs.states.state_breaking.Goals as goal

pub spin_walk-requires-clause-below : goal.spin_walk-requires-clause-below
spin_walk-requires-clause-below c = join_below c.args.planar.now.instance c.args.planar.now.faces c.args.edges.now c.requires.join

pub spin_walk-requires-clause-fits : goal.spin_walk-requires-clause-fits
spin_walk-requires-clause-fits c = join_fits c.args.planar.now.instance c.args.planar.now.faces c.args.edges.now c.requires.join

pub overflow_cast-energy : goal.overflow_cast-energy
overflow_cast-energy c =
    energy_fits c.args.planar.now c.instance-inst.result.now c.in_ok-spins.spins c.energy-energy.result
    c.instance-inst.ensures.planar c.instance-inst.ensures.value c.in_ok-spins.ensures.assignment c.energy-energy.ensures

pub returns-clause-energy : goal.returns-clause-energy
returns-clause-energy c = sym (
    cast_energy c.args.planar.now c.instance-inst.result.now c.in_ok-spins.spins c.energy-energy.result
    c.instance-inst.ensures.planar c.instance-inst.ensures.value c.in_ok-spins.ensures.assignment c.energy-energy.ensures)
