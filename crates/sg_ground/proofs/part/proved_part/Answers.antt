use Rattle.std.proofs.Common.{rules, to_z-of_z, w64}
use Rattle.sg_ground.proofs.Solutions.{solution_from_join}
use Rattle.sg_ground.proofs.part.proved_part.Goals as goal

pub returns-clause-solution : goal.returns-clause-solution
returns-clause-solution c =
    let join = c.in_ok-join.join in
    let state = c.in_ok-state.state in
    rw (to_z-of_z {w = w64} {z = state.energy} (search rules), c.in_ok-loops.ensures)
    (solution_from_join c.args.planar.now c.join_faces.ensures.planar c.requires.connected state.spins state.energy join.weight join.edges join.cuts
    c.in_ok-state.ensures.breaks c.in_ok-state.ensures.state c.in_ok-join.ensures.join)

pub joined_state-requires-clause-join : goal.joined_state-requires-clause-join
joined_state-requires-clause-join c = search rules
