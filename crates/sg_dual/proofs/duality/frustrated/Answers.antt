use Rattle.std.proofs.Common.{◌∙◌}
use Rattle.sg_dual.proofs.Frustration.{frustrated_from_marks}
use Rattle.sg_dual.proofs.duality.frustrated.Goals as goal

pub returns : goal.returns
returns c =
    frustrated_from_marks c.args.inst.now c.args.faces.now c.in_ok-marks.marks.items c.deref.result.now c.in_ok-terminals.terminals
    c.deref.ensures.value (c.deref.ensures.len ∙ c.in_ok-marks.ensures.lengths) c.in_ok-marks.ensures.marks c.in_ok-terminals.ensures
