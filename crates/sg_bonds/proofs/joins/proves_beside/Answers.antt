use Rattle.sg_bonds.proofs.Common.{rules, ap, ◌∙◌, to_z, of_z, w64, Graph, with_weight}
use Rattle.std.proofs.lemmas.Int.{to_z-of_z}
use Rattle.sg_bonds.proofs.EdgeJoins.{weight_back}
use Rattle.sg_bonds.proofs.JoinsFound.{far_fits, far_light, far_positive}
use Rattle.sg_bonds.proofs.joins.proves_beside.Goals as goal

pub overflow_cast-far : goal.overflow_cast-far
overflow_cast-far c =
    far_fits c.args.web.now c.args.edge c.requires.edge c.args.edges.now c.as_slice.result.now c.as_slice.ensures c.requires.rising c.requires.below
    c.requires.light c.weight-far.result c.weight-far.ensures.value

pub set_weight-weight-requires-clause-not_negative : goal.set_weight-weight-requires-clause-not_negative
set_weight-weight-requires-clause-not_negative c =
    far_positive c.args.web.now c.args.edge c.requires.edge c.args.edges.now c.as_slice.result.now c.as_slice.ensures c.requires.rising c.requires.below
    c.requires.light c.weight-far.result c.weight-far.ensures.value

pub set_weight-weight-requires-clause-light : goal.set_weight-weight-requires-clause-light
set_weight-weight-requires-clause-light c =
    far_light c.args.web.now c.args.edge c.requires.edge c.args.edges.now c.as_slice.result.now c.as_slice.ensures c.requires.rising c.requires.below
    c.requires.light c.weight-far.result c.weight-far.ensures.value

pub returns-clause-web : goal.returns-clause-web
returns-clause-web c =
    c.set_weight.ensures.web
    ∙ ap (λ (g : Graph). with_weight g c.args.edge (to_z w64 (of_z w64 c.set_weight-weight.result))) c.set_weight-weight.ensures.web
    ∙ weight_back c.args.web.now c.args.edge c.requires.edge (to_z w64 c.weight-far.result) (to_z w64 (of_z w64 c.set_weight-weight.result))
    (to_z-of_z w64 c.set_weight-weight.result (search rules) ∙ c.set_weight-weight.ensures.old)
