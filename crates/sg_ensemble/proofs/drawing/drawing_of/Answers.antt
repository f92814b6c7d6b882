use Rattle.std.proofs.Common.{sym, subst}
use Rattle.sg_planar.specs.Fit.{IsFit}
use Rattle.sg_ensemble.proofs.DrawnCylinders.{drawn_fit, fit_not_refused}
use Rattle.sg_ensemble.proofs.drawing.drawing_of.Goals as goal

pub unreachable-requires : goal.unreachable-requires
unreachable-requires c =
    fit_not_refused c.in_ok-bare.bare (subst IsFit (sym c.in_ok-bare.ensures)
    (drawn_fit c.args.rows c.args.cols c.requires.size c.in_ok-no_couplings.field-0 c.in_ok-no_couplings.ensures.count
    c.in_ok-no_couplings.ensures.range c.requires.spherical))
    c.in-Err-Refused.field-0 c.in-Err-Refused.field-0-0 c.in-Err-Refused.field-0-is c.in-Err-Refused.ensures.unfit
