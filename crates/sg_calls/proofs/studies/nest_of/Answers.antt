use Rattle.std.proofs.Common.{inl, sym, refl}
use Rattle.sg_base.specs.Limits.{table_limit}
use Rattle.sg_model.proofs.EnergyBounds.{energy_size}
use Rattle.sg_draft.specs.Limits.{large_limits}
use Rattle.sg_ground.specs.Allowance.{TablesExceed}
use Rattle.sg_calls.specs.Graphs.{IsFitFault, numbers_of}
use Rattle.sg_reader.proofs.RestLaws.{failed}
use Rattle.sg_calls.proofs.StudyLemmas.{by_solver, exceeded}
use Rattle.sg_calls.proofs.studies.nest_of.Goals as goal

pub returns-clause-gives : goal.returns-clause-gives
returns-clause-gives c =
    let state = c.in_ok-state.state in
    let known = c.in_ok-state.ensures in
    let inst = c.in_ok-planar.planar.instance in
    record {
      instance = inst;
      given = rw c.large.ensures.value at c.in_ok-planar.ensures.gives;
      study = record {
        spins = state.spins;
        nest = state.nest;
        faces = c.in_ok-planar.planar.faces;
        labels = c.nested_state.ensures.planar.faces;
        state = record {
          state = record {
            ground_state = known.ground_state;
            stated = sym known.energy;
            size = rw known.energy (energy_size inst state.spins c.nested_state.ensures.planar.instance known.ground_state.assignment);
            leasts_up = known.first_up;
          };
          proves = known.proves;
        };
        crossed = (refl, c.in_ok-rows.ensures);
      };
    }

pub returns-in_err-state-clause-refuses : goal.returns-in_err-state-clause-refuses
returns-in_err-state-clause-refuses c =
    let g = numbers_of c.args.given.now in
    failed c.from_residual-in_err-state.result _ c.from_residual-in_err-state.ensures.1
    (by_solver g c.in_ok-planar.planar.instance (rw c.large.ensures.value at c.in_ok-planar.ensures.gives) (IsFitFault large_limits g) (inl tt)
    (TablesExceed table_limit) exceeded c.in_err-state.field-0.0 c.in_err-state.ensures.too_large)
