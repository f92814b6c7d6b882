use Rattle.std.proofs.Common.{◌≡◌, ◌≤◌, ◌*◌, ap, arith, to_z, of_z, w64, rules, unsigned_abs}
use Rattle.std.proofs.lemmas.Int.{fits_signed_from_abs, to_z-of_z}
use Rattle.sg_model.specs.Energy.{weight}
use Rattle.sg_ensemble.proofs.DrawnCylinders.{wall_size}
use Rattle.sg_ensemble.proofs.drawing.seam_wall.Goals as goal

pub returns-clause-size : goal.returns-clause-size
returns-clause-size c =
    let d = c.in_ok-wall.field-0.difference in
    let size : unsigned_abs d ≤ 2 * weight c.args.planar.now.instance =
    wall_size c.args.planar.now.instance c.in_ok-wall.field-0.periodic c.in_ok-wall.field-0.antiperiodic d
    c.instance-instance.ensures.planar.instance c.in_ok-wall.ensures.wall in
    let kept : to_z w64 (of_z w64 d) ≡ d = to_z-of_z w64 d (fits_signed_from_abs w64 d (omega (arith, size, c.requires))) in
    omega (arith, ap unsigned_abs kept, size, c.requires)

pub returns-clause-wall : goal.returns-clause-wall
returns-clause-wall c = search rules
