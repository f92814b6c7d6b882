use Rattle.std.proofs.Common.{rules, to_z-of_z, w64}
use Rattle.sg_ground.proofs.NestProofs.{nested_by_state}
use Rattle.sg_ground.proofs.whole.whole_state.Goals as goal

pub returns-clause-state : goal.returns-clause-state
returns-clause-state c =
    let join = c.in_ok-join.join in
    let state = c.in_ok-state.state in
    rw (to_z-of_z {w = w64} {z = state.energy} (search rules))
    (nested_by_state c.args.planar.now c.weighed_join.ensures.planar state.spins c.in_ok-state.ensures.state.ground_state.assignment
    state.energy join.edges join.nest c.in_ok-state.ensures.breaks c.in_ok-state.ensures.state c.in_ok-join.ensures.proves)
