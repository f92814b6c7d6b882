use Rattle.sg_bonds.proofs.Common.{rules, ◌≡◌, List, ℤ, map, ap, ◌∙◌, w64, to_z, of_z, to_z-of_z, arith, common_steps, Ising}
use Rattle.sg_model.specs.Broken.{is_broken}
use Rattle.sg_bonds.proofs.TurnedBonds.{marks_broken}
use Rattle.sg_bonds.proofs.breaking.forced_with.Goals as goal

pub returns-clause-breaks : goal.returns-clause-breaks
returns-clause-breaks c =
    let inst : Ising = c.args.study.now.planar.now.instance in
    let s : List ℤ = c.in_ok-state.state.spins in
    let bonds : c.as_slice.result.now ≡ inst.bonds =
    c.as_slice.ensures ∙ c.bonds.ensures.value ∙ ap (λ (i : Ising). i.bonds) c.instance.ensures.value in
    marks_broken inst s c.in_ok-state.ensures.assignment (to_z w64 (of_z w64 c.in_ok-state.state.energy))
    (to_z-of_z {w = w64} {z = c.in_ok-state.state.energy} (search rules) ∙ c.in_ok-state.ensures.energy)
    c.deref.result.now (c.deref.ensures.value ∙ c.in_ok-marks.ensures ∙ ap (map (is_broken s)) bonds) c.in_ok-places.field-0 c.in_ok-places.ensures

pub places-requires : goal.places-requires
places-requires c = grind (arith, common_steps)
