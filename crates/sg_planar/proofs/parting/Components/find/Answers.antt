use Rattle.std.proofs.Common.{◌≡◌, true, length, replicate, ◌∙◌, ap}
use Rattle.sg_model.specs.Ising.{bond_count}
use Rattle.sg_planar.proofs.ComponentLaws.{components_found}
use Rattle.sg_planar.proofs.parting.Components.find.Goals as goal

pub returns : goal.returns
returns c =
    let all : c.deref.result.now ≡ replicate (bond_count c.args.inst.now) true = c.deref.ensures.value ∙ c.in_ok-all.ensures.items_if_clones_equal (λ y e. e)
    ∙ ap (λ m. replicate m true) (c.len.ensures ∙ ap length c.bonds.ensures.value) in
    rw (c.from_vec.ensures, c.from_vec-2.ensures, c.in_ok-leasts.ensures, c.deref-2.ensures.value) (components_found _ _ _ all c.in_ok-names.ensures)
