use Rattle.sg_bonds.proofs.Common.{ap, arith, pos, ◌∙◌, ◌≡◌, w64, fits_signed_from_abs, to_z_pos, weight_of}
use Rattle.sg_graph.proofs.OnceLists.{rising_light}
use Rattle.sg_bonds.proofs.joins.weight.Goals as goal

pub overflow_cast-result : goal.overflow_cast-result
overflow_cast-result c =
    let same : c.weight.result ≡ weight_of c.args.web.now c.args.edges.now = c.weight.ensures.value ∙ ap (weight_of c.args.web.now) c.as_slice.ensures in
    fits_signed_from_abs w64 (pos c.weight.result)
    (omega (arith, same, rising_light c.args.web.now c.args.edges.now c.requires.below c.requires.rising, c.weight.ensures.web.light))

pub returns : goal.returns
returns c =
    let same : c.weight.result ≡ weight_of c.args.web.now c.args.edges.now = c.weight.ensures.value ∙ ap (weight_of c.args.web.now) c.as_slice.ensures in
    to_z_pos w64 c.weight.result
    (omega (arith, same, rising_light c.args.web.now c.args.edges.now c.requires.below c.requires.rising, c.weight.ensures.web.light))
    ∙ ap pos same
