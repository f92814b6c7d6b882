use Rattle.std.proofs.lemmas.Result.{err_from_is_err_and}
use Rattle.sg_wall.proofs.WallNumbers.{difference_fits, is_wall, no_gain}
use Rattle.sg_wall.proofs.WallTables.{first_exceeds, second_exceeds}
use Rattle.sg_wall.proofs.walls.wall_within.Goals as goal

pub overflow_sub-result : goal.overflow_sub-result
overflow_sub-result c =
    difference_fits c.args.planar.now c.in_ok-flip_seam.field-0 c.in_ok-periodic.periodic c.in_ok-antiperiodic.antiperiodic
    c.in_ok-flip_seam.ensures.planar c.in_ok-flip_seam.ensures.copy c.in_ok-periodic.ensures.least c.in_ok-periodic.ensures.size
    c.in_ok-antiperiodic.ensures.least c.in_ok-antiperiodic.ensures.size

pub returns-clause-wall : goal.returns-clause-wall
returns-clause-wall c =
    is_wall c.args.planar.now c.in_ok-flip_seam.field-0 c.in_ok-periodic.periodic c.in_ok-antiperiodic.antiperiodic
    c.in_ok-flip_seam.ensures.planar c.in_ok-flip_seam.ensures.copy c.in_ok-periodic.ensures.least c.in_ok-periodic.ensures.size
    c.in_ok-antiperiodic.ensures.least c.in_ok-antiperiodic.ensures.size

pub returns-clause-no_seam : goal.returns-clause-no_seam
returns-clause-no_seam c =
    no_gain c.args.planar.now c.in_ok-flip_seam.field-0 c.in_ok-periodic.periodic c.in_ok-antiperiodic.antiperiodic
    c.in_ok-flip_seam.ensures.planar c.in_ok-flip_seam.ensures.copy c.in_ok-periodic.ensures.least c.in_ok-periodic.ensures.size
    c.in_ok-antiperiodic.ensures.least c.in_ok-antiperiodic.ensures.size

pub returns-in_err-periodic-clause-too_large : goal.returns-in_err-periodic-clause-too_large
returns-in_err-periodic-clause-too_large c =
    let p = err_from_is_err_and c.from_residual.result c.from_residual.ensures.1 in
    rw (p.1, p.2) (
    first_exceeds c.args.planar.now.instance c.args.most_bytes c.in_err-periodic.field-0.0 c.in_err-periodic.ensures.too_large)

pub returns-in_err-antiperiodic-clause-too_large : goal.returns-in_err-antiperiodic-clause-too_large
returns-in_err-antiperiodic-clause-too_large c =
    let p = err_from_is_err_and c.from_residual-in_err-antiperiodic.result c.from_residual-in_err-antiperiodic.ensures.1 in
    rw (p.1, p.2) (
    second_exceeds c.args.planar.now c.in_ok-flip_seam.field-0 c.in_ok-flip_seam.ensures.copy c.args.most_bytes c.in_err-antiperiodic.field-0.0
    c.in_err-antiperiodic.ensures.too_large)
