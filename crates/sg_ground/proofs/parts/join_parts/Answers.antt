use Rattle.std.proofs.Common.{◌≡◌, ◌+ℤ◌, ◌+◌, ◌++◌, ℤ, map, take, ap, ◌∙◌, to_z, of_z, w64, rules, FitsSigned, take_all}
use Rattle.std.proofs.lemmas.Int.{to_z-of_z}
use Rattle.std.proofs.lemmas.List.{with_items_is}
use Rattle.std.proofs.lemmas.Result.{err_from_is_err_and}
use Rattle.sg_ground.specs.Placed.{loop_in_whole}
use Rattle.sg_ground.proofs.Allowed.{part_exceeds}
use Rattle.sg_ground.proofs.CountedSteps.{steps_all, steps_more}
use Rattle.sg_ground.proofs.Glued.{IsGlued}
use Rattle.sg_ground.proofs.Gluing.{all_glued, glued_fits, loops_below, part_glued, part_here, share}
use Rattle.sg_ground.proofs.Shares.{IsShare}
use Rattle.sg_ground.proofs.parts.join_parts.Goals as goal
use Rattle.sg_ground.proofs.parts.join_parts.Goals.{After-part-item, After-place_values}

-- the part is a share of the whole
here : (c : After-part-item) → IsShare c.args.inst.now c.part-item.result.spins c.part-item.result.bonds c.part-item.result.planar.instance
here c = share c.args.inst.now c.n.ensures.instance c.args.parts.now c.requires.parts c.loop-part.part-index c.part-item.result c.loop-part-test.true
    c.part-item.is

-- what the parts give together with it
with_part : (c : After-place_values) →
    IsGlued c.args.inst.now c.args.with_loops (take (c.loop-part.part-index + 1) c.args.parts.now) c.place_values.new.values
    (to_z w64 c.loop-part.energy-bits +ℤ c.in_ok-found.found.energy)
    (c.loop-part.loops ++ map (loop_in_whole c.part-item.result.bonds) c.in_ok-found.found.loops)
with_part c =
    let found = c.in_ok-found.found in
    part_glued c.args.inst.now c.n.ensures.instance c.args.parts.now c.requires.parts c.loop-part.part-index c.part-item.result c.loop-part-test.true
    c.part-item.is c.args.with_loops c.loop-part.values.items found.spins c.place_values.new.values (to_z w64 c.loop-part.energy-bits) found.energy
    c.loop-part.loops found.loops c.loop-part.invariant.glued c.in_ok-found.ensures.solution
    (rw (c.as_slice.ensures, c.as_slice-in-loop-part.ensures.value, c.deref_mut.ensures.value) at c.place_values.ensures)

fits : (c : After-place_values) → FitsSigned w64 (to_z w64 c.loop-part.energy-bits +ℤ c.in_ok-found.found.energy)
fits c = glued_fits c.args.inst.now c.n.ensures.instance c.args.parts.now c.requires.parts (c.loop-part.part-index + 1) _ c.requires.light (with_part c).size

pub solve_part-requires : goal.solve_part-requires
solve_part-requires c = record {
  connected = (part_here c.args.inst.now c.n.ensures.instance c.args.parts.now c.requires.parts c.loop-part.part-index c.part-item.result
      c.loop-part-test.true c.part-item.is).1.connected;
}

pub place_values-requires-clause-rising : goal.place_values-requires-clause-rising
place_values-requires-clause-rising c = rw c.as_slice.ensures (here (goal.at.place_values-requires-clause-rising c).After-part-item).spins_rise

pub place_values-requires-clause-below : goal.place_values-requires-clause-below
place_values-requires-clause-below c =
    rw (c.as_slice.ensures, c.deref_mut.ensures.value, c.loop-part.invariant.glued.assignment.count)
    (here (goal.at.place_values-requires-clause-below c).After-part-item).spins_below

pub place_values-requires-clause-count : goal.place_values-requires-clause-count
place_values-requires-clause-count c =
    rw (c.as_slice.ensures, c.as_slice-in-loop-part.ensures.value)
    (c.in_ok-found.ensures.solution.state.ground_state.assignment.count
    ∙ (here (goal.at.place_values-requires-clause-count c).After-part-item).spin_count)

pub overflow_add-energy : goal.overflow_add-energy
overflow_add-energy c =
    rw (to_z-of_z w64 c.in_ok-found.found.energy (search rules)) (fits (goal.at.overflow_add-energy c).After-place_values)

pub place_loops-requires : goal.place_loops-requires
place_loops-requires c =
    let found = c.in_ok-found.found in
    record {
      below = rw (c.as_slice-in-loop-part-2.ensures, c.as_slice-in-loop-part-3.ensures)
          (loops_below c.args.inst.now c.n.ensures.instance c.args.parts.now c.requires.parts c.loop-part.part-index c.part-item.result
          c.loop-part-test.true c.part-item.is c.args.with_loops found.spins found.energy found.loops c.in_ok-found.ensures.solution);
    }

pub loop-part-preserved : goal.loop-part-preserved
loop-part-preserved c =
    let now = (goal.at.loop-part-preserved c).After-place_values in
    let sum : ℤ = to_z w64 c.loop-part.energy-bits +ℤ c.in_ok-found.found.energy in
    let same_energy : to_z w64 (of_z w64 (to_z w64 c.loop-part.energy-bits +ℤ to_z w64 (of_z w64 c.in_ok-found.found.energy))) ≡ sum =
    ap (λ y. to_z w64 (of_z w64 (to_z w64 c.loop-part.energy-bits +ℤ y))) (to_z-of_z w64 c.in_ok-found.found.energy (search rules))
    ∙ to_z-of_z w64 sum (fits now) in
    record {
      glued = rw (
        with_items_is c.loop-part.values c.place_values.new.values (c.place_values.auto.values ∙ c.deref_mut.ensures.len),
        same_energy,
        c.in_ok-place_loops.ensures,
        c.as_slice-in-loop-part-2.ensures,
        c.as_slice-in-loop-part-3.ensures,
      ) (with_part now);
      steps = steps_more c.args.parts.now c.loop-part.part-index c.part-item.result c.loop-part-test.true c.part-item.is _ _ _
          c.loop-part.invariant.steps c.in_ok-found.ensures.steps;
    }

pub returns-clause-solution : goal.returns-clause-solution
returns-clause-solution c =
    rw (c.in_ok-spins_of.ensures, c.deref.ensures.value)
    (all_glued c.args.inst.now c.n.ensures.instance c.args.parts.now c.requires.parts c.args.with_loops _ _ _
    (rw (take_all c.loop-part.part-index c.args.parts.now (search rules)) at c.loop-part.invariant.glued))

pub returns-in_err-found-clause-too_large : goal.returns-in_err-found-clause-too_large
returns-in_err-found-clause-too_large c =
    let p = err_from_is_err_and c.from_residual-in_err-found.result c.from_residual-in_err-found.ensures.1 in
    rw (p.1, p.2) (
    part_exceeds c.args.inst.now c.n.ensures.instance c.args.parts.now c.requires.parts c.loop-part.part-index c.part-item.result
    c.loop-part-test.true c.part-item.is c.args.most_bytes c.in_err-found.field-0.0 c.in_err-found.ensures.too_large)

pub returns-clause-steps : goal.returns-clause-steps
returns-clause-steps c = steps_all c.args.parts.now c.loop-part.part-index (search rules) _ _ c.loop-part.invariant.steps
