use Rattle.std.proofs.Common.{◌<◌, List, [], ◌∷◌, ◌++◌, length, take, sym, ◌∙◌, ap, ap₂, subst, arith, w64, take_all}
use Rattle.std.proofs.lemmas.Int.{to_z-of_z}
use Rattle.sg_model.specs.declared.bond.Bond.{Bond}
use Rattle.sg_model.specs.Ising.{bond_count}
use Rattle.sg_model.specs.WellFormed.{IsInstance}
use Rattle.sg_model.specs.Changes.{HasSameEnds, with_coupling}
use Rattle.sg_model.proofs.Recoupled.{coupling_step, coupling_ends}
use Rattle.sg_model.proofs.instance.Instance.with_coupling.Goals as goal

pub loop-k-preserved : goal.loop-k-preserved
loop-k-preserved c =
    let inst = c.args.self.now in
    let same = c.loop-k.invariant.list in
    let within : c.loop-k.k < bond_count inst = omega (arith, ap (length {A = Bond}) same) in
    record {
      list = same;
      made = c.in_ok-push.ensures.ok
          ∙ ap₂ (λ (done : List Bond) (b : Bond). done ++ b ∷ []) c.loop-k.invariant.made c.recoupled_if.ensures
          ∙ coupling_step inst c.args.bond _ c.requires.bond_in c.as_slice-old-items.result.now c.loop-k.k same within;
    }

pub with_bonds-requires : goal.with_bonds-requires
with_bonds-requires c =
    let inst = c.args.self.now in
    let good = subst IsInstance c.self.view_is c.self.invariant in
    let ends = coupling_ends inst c.args.bond c.args.j c.requires.bond_in good.draft.joined c.requires.size in
    let same = ap (λ z. take c.loop-k.k (with_coupling inst c.args.bond z).bonds) (to_z-of_z w64 c.args.j c.ranges.j) in
    let all = take_all c.loop-k.k (with_coupling inst c.args.bond c.args.j).bonds (omega (arith, ends.count, ap (length {A = Bond}) c.loop-k.invariant.list)) in
    subst (HasSameEnds inst) (sym (c.loop-k.invariant.made ∙ same ∙ all)) ends
