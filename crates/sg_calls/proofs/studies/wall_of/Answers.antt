use Rattle.std.proofs.Common.{arith, inl}
use Rattle.std.proofs.lemmas.Grind.{common_steps}
use Rattle.sg_base.specs.Limits.{table_limit}
use Rattle.sg_draft.specs.Limits.{large_limits}
use Rattle.sg_wall.specs.Wall.{WallTablesExceed}
use Rattle.sg_calls.specs.Graphs.{IsWallFault, numbers_of}
use Rattle.sg_reader.proofs.RestLaws.{failed}
use Rattle.sg_calls.proofs.StudyLemmas.{by_solver, wall_exceeded}
use Rattle.sg_calls.proofs.studies.wall_of.Goals as goal

pub returns-in_err-wall_within-clause-refuses : goal.returns-in_err-wall_within-clause-refuses
returns-in_err-wall_within-clause-refuses c =
    let g = numbers_of c.args.given.now in
    failed c.from_residual-in_err-wall_within.result _ c.from_residual-in_err-wall_within.ensures.1
    (by_solver g c.in_ok-planar.planar.instance (rw c.large.ensures.value at c.in_ok-planar.ensures.gives) (IsWallFault large_limits g) (inl (inl tt))
    (WallTablesExceed table_limit) wall_exceeded c.in_err-wall_within.field-0.0 c.in_err-wall_within.ensures.too_large)

pub returns-then-is_empty-clause-refuses : goal.returns-then-is_empty-clause-refuses
returns-then-is_empty-clause-refuses c = grind (arith, common_steps)

pub returns-clause-gives : goal.returns-clause-gives
returns-clause-gives c = record {
  instance = c.in_ok-planar.planar.instance;
  given = rw c.large.ensures.value at c.in_ok-planar.ensures.gives;
  study = record { seam = grind (arith, common_steps); wall = c.in_ok-wall_within.ensures.wall };
}
