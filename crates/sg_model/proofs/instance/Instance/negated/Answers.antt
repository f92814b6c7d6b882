use Rattle.std.proofs.Common.{◌≤◌, length, map, sym, ◌∙◌, ap, subst, arith, take_all}
use Rattle.std.proofs.lemmas.Grind.{common_steps}
use Rattle.sg_model.specs.declared.bond.Bond.{Bond}
use Rattle.sg_model.specs.Ising.{bond_count}
use Rattle.sg_model.specs.WellFormed.{IsInstance}
use Rattle.sg_model.specs.Changes.{HasSameEnds, opposite}
use Rattle.sg_model.proofs.Recoupled.{negated_ends}
use Rattle.sg_model.proofs.instance.Instance.negated.Goals as goal

pub with_bonds-requires : goal.with_bonds-requires
with_bonds-requires c =
    let inst = c.args.self.now in
    let good = subst IsInstance c.self.view_is c.self.invariant in
    let items = c.as_slice-bond-items.ensures ∙ ap (λ i. i.bonds) c.self.view_is in
    let done : bond_count inst ≤ c.loop-bond.bond-index = omega (arith, ap (length {A = Bond}) items) in
    subst (HasSameEnds inst) (sym (c.loop-bond.invariant ∙ ap (map opposite) (take_all c.loop-bond.bond-index inst.bonds done)))
    (negated_ends inst good.draft.joined)

pub loop-bond-preserved : goal.loop-bond-preserved
loop-bond-preserved c = grind (arith, common_steps)

pub returns : goal.returns
returns c = grind (arith, common_steps)
