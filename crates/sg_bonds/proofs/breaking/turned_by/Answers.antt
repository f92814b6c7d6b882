use Rattle.sg_bonds.proofs.Common.{rules, ◌≡◌, ◌+ℤ◌, ℤ, List, Bool, length, map, ap, sym, ◌∙◌, w64, to_z-of_z, arith, common_steps, length-map, with_items_is, is_marked, Ising, energy}
use Rattle.sg_model.specs.Broken.{is_broken}
use Rattle.sg_bonds.proofs.TurnedBonds.{marks_turn}
use Rattle.sg_bonds.proofs.breaking.turned_by.Goals as goal

pub returns-clause-turned : goal.returns-clause-turned
returns-clause-turned c =
    let inst : Ising = c.args.study.now.planar.now.instance in
    let s : List ℤ = c.args.study.now.least.now.spins in
    let bonds : c.as_slice-bonds.result.now ≡ inst.bonds =
    c.as_slice-bonds.ensures ∙ c.bonds.ensures.value ∙ ap (λ (i : Ising). i.bonds) c.instance.ensures.value in
    let first : c.deref_mut.result.now ≡ map (is_broken s) inst.bonds =
    c.deref_mut.ensures.value ∙ c.in_ok-marks.ensures ∙ ap (map (is_broken s)) bonds in
    let items = with_items_is c.in_ok-marks.marks c.flip.new.marks (search rules) in
    record {
      state = c.requires.breaks.state;
      assignment = c.requires.breaks.assignment;
      above =
          c.requires.breaks.value ∙ c.requires.above
          ∙ ap (λ (x : ℤ). energy inst s +ℤ x) (sym (to_z-of_z {w = w64} {z = c.args.cost} (search rules)));
      count = ap length items ∙ c.flip.auto.marks ∙ ap length first ∙ length-map inst.bonds (is_broken s);
      turns = λ k l marked.
          marks_turn inst c.instance.ensures.planar.instance s c.requires.study.ground_state.assignment c.args.found.now.energy
          c.args.found.now.bonds c.requires.breaks c.deref_mut.result.now c.flip.new.marks first (rw c.as_slice.ensures at c.flip.ensures) k l
          (ap (λ (m : List Bool). is_marked m k) (sym items) ∙ marked);
    }

pub flip-requires : goal.flip-requires
flip-requires c = grind (arith, common_steps)
