use Rattle.std.proofs.Common.{ap, arith, pos, ◌∙◌, ◌≤◌, ◌^◌, w64}
use Rattle.std.proofs.lemmas.Int.{fits_signed_from_abs, to_z_pos}
use Rattle.sg_graph.specs.Web.{weight_of}
use Rattle.sg_graph.proofs.OnceLists.{rising_light}
use Rattle.sg_tjoin.proofs.weight.weight.Goals as goal
use Rattle.sg_tjoin.proofs.weight.weight.Goals.{After-weight}

-- the edges weigh no more than all
light : (c : After-weight) → c.weight.result ≤ 2 ^ 60
light c =
    omega (
      arith,
      c.weight.ensures.value,
      ap (weight_of c.args.web.now) c.as_slice.ensures,
      rising_light c.args.web.now c.args.edges.now c.requires.below c.requires.rising,
      c.weight.ensures.web.light,
    )

pub overflow_cast-result : goal.overflow_cast-result
overflow_cast-result c = fits_signed_from_abs w64 (pos c.weight.result) (omega (arith, light (goal.at.overflow_cast-result c).After-weight))

pub returns : goal.returns
returns c =
    to_z_pos w64 c.weight.result (omega (arith, light (goal.at.returns c).After-weight))
    ∙ ap pos (c.weight.ensures.value ∙ ap (weight_of c.args.web.now) c.as_slice.ensures)
