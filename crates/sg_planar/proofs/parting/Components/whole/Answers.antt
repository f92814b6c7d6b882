use Rattle.std.proofs.Common.{◌≡◌, [], ◌∷◌, replicate, ◌∙◌, ap}
use Rattle.sg_planar.proofs.ComponentLaws.{one_component}
use Rattle.sg_planar.proofs.parting.Components.whole.Goals as goal

pub returns : goal.returns
returns c =
    let names : c.in_ok-names.names.items ≡ replicate c.args.inst.now.n 0 =
    c.in_ok-names.ensures.items_if_clones_equal (λ y e. e) ∙ ap (λ n. replicate n 0) c.n.ensures.value in
    let leasts : c.in_ok-leasts.leasts.items ≡ 0 ∷ [] = c.in_ok-leasts.ensures.items_if_clones_equal (λ y e. e) in
    rw (c.from_vec.ensures, c.from_vec-2.ensures, names, leasts) (one_component c.args.inst.now c.n.ensures.instance.draft.has_spin c.requires)
