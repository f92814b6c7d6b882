use Rattle.std.proofs.Common.{inl, refl}
use Rattle.sg_base.specs.Limits.{table_limit}
use Rattle.sg_draft.specs.Limits.{large_limits}
use Rattle.sg_ground.specs.Allowance.{TablesExceed}
use Rattle.sg_calls.specs.Graphs.{IsFitFault, numbers_of}
use Rattle.sg_reader.proofs.RestLaws.{failed}
use Rattle.sg_calls.proofs.StudyLemmas.{by_solver, exceeded}
use Rattle.sg_calls.proofs.studies.ground_of.Goals as goal

pub returns-clause-gives : goal.returns-clause-gives
returns-clause-gives c =
    let answer = c.in_ok-answer.answer in
    let known = c.in_ok-answer.ensures in
    record {
      instance = c.in_ok-planar.planar.instance;
      given = rw c.large.ensures.value at c.in_ok-planar.ensures.gives;
      study = record {
        spins = answer.spins;
        loops = answer.loops;
        least = known.ground_state;
        proves = known.proves;
        short = known.short;
        leasts_up = known.first_up;
        crossed = (refl, rw c.as_slice.ensures at c.in_ok-rows.ensures);
      };
    }

pub returns-in_err-answer-clause-refuses : goal.returns-in_err-answer-clause-refuses
returns-in_err-answer-clause-refuses c =
    let g = numbers_of c.args.given.now in
    failed c.from_residual-in_err-answer.result _ c.from_residual-in_err-answer.ensures.1
    (by_solver g c.in_ok-planar.planar.instance (rw c.large.ensures.value at c.in_ok-planar.ensures.gives) (IsFitFault large_limits g) (inl tt)
    (TablesExceed table_limit) exceeded c.in_err-answer.field-0.0 c.in_err-answer.ensures.too_large)
