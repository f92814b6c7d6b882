use Rattle.std.proofs.Common.{◌∙◌}
use Rattle.sg_ranges.proofs.Cuts.{cut_fits, cut_kept}
use Rattle.sg_ranges.proofs.cutting.cut_weight.Goals as goal

pub overflow_cast-result : goal.overflow_cast-result
overflow_cast-result c =
    cut_fits c.args.inst.now c.args.spins.now c.requires.sum c.cut_sum.result c.as_slice.result.now c.cut_sum.ensures.size c.cut_sum.ensures.value
    (c.as_slice.ensures ∙ c.bonds.ensures.value)

pub returns : goal.returns
returns c =
    cut_kept c.args.inst.now c.args.spins.now c.requires.sum c.cut_sum.result c.as_slice.result.now c.cut_sum.ensures.size c.cut_sum.ensures.value
    (c.as_slice.ensures ∙ c.bonds.ensures.value)
