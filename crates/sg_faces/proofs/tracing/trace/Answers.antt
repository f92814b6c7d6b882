use Rattle.std.proofs.Common.{◌+◌, ◌∙◌, ap, length, sym, subst, arith}
use Rattle.sg_faces.specs.Tables.{IsOrbitLabels}
use Rattle.sg_faces.proofs.FaceOrbits.{least_of_face}
use Rattle.sg_faces.proofs.BareSpins.{bare_few}
use Rattle.sg_faces.proofs.Traced.{orbits_few, phi_table_moves, faces_from_orbits}
use Rattle.sg_faces.proofs.tracing.trace.Goals as goal

pub returns-in_err-steps-clause-least : goal.returns-in_err-steps-clause-least
returns-in_err-steps-clause-least c = least_of_face c.args.inst.now c.phi_table.ensures.instance

pub label_orbits-requires-clause-is_move : goal.label_orbits-requires-clause-is_move
label_orbits-requires-clause-is_move c = grind (arith, phi_table_moves)

pub label_orbits-requires-clause-room : goal.label_orbits-requires-clause-room
label_orbits-requires-clause-room c = grind arith

pub returns-in_err-orbits-clause-least : goal.returns-in_err-orbits-clause-least
returns-in_err-orbits-clause-least c = least_of_face c.args.inst.now c.phi_table.ensures.instance

pub with_more-requires : goal.with_more-requires
with_more-requires c =
    omega (
      arith,
      orbits_few c.deref.result.now c.in_ok-orbits.orbits.labels c.in_ok-orbits.orbits.count c.in_ok-orbits.ensures,
      ap length c.deref.ensures.value,
      c.in_ok-steps.ensures.table.lengths,
      c.phi_table.ensures.instance.draft.few_bonds,
      c.phi_table.ensures.instance.draft.few_spins,
      c.in_ok-steps.ensures.bare,
      bare_few c.args.inst.now,
    )

pub returns-clause-labels : goal.returns-clause-labels
returns-clause-labels c =
    let orbits : IsOrbitLabels c.in_ok-steps.steps.table.items c.with_more.result.labels c.in_ok-orbits.orbits.count =
    subst (λ xs. IsOrbitLabels c.in_ok-steps.steps.table.items xs c.in_ok-orbits.orbits.count) (sym c.with_more.ensures.labels)
    (subst (λ table. IsOrbitLabels table c.in_ok-orbits.orbits.labels c.in_ok-orbits.orbits.count) c.deref.ensures.value c.in_ok-orbits.ensures) in
    faces_from_orbits c.args.inst.now c.phi_table.ensures.instance c.in_ok-steps.steps.table.items c.in_ok-steps.ensures.table c.with_more.result.labels
    c.in_ok-orbits.orbits.count c.with_more.result.count orbits
    (c.with_more.ensures.count ∙ ap (λ n. c.in_ok-orbits.orbits.count + n) c.in_ok-steps.ensures.bare)

pub returns-clause-least : goal.returns-clause-least
returns-clause-least c = least_of_face c.args.inst.now c.phi_table.ensures.instance
