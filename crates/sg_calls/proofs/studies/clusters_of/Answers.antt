use Rattle.std.proofs.Common.{inl}
use Rattle.sg_base.specs.Limits.{table_limit}
use Rattle.sg_draft.specs.Limits.{large_limits}
use Rattle.sg_bonds.specs.Weakened.{WeakenedTablesExceed}
use Rattle.sg_calls.specs.Graphs.{IsFitFault, numbers_of}
use Rattle.sg_reader.proofs.RestLaws.{failed}
use Rattle.sg_calls.proofs.StudyLemmas.{by_solver, weakened_exceeded}
use Rattle.sg_calls.proofs.studies.clusters_of.Goals as goal

pub returns-in_err-clusters_within-clause-refuses : goal.returns-in_err-clusters_within-clause-refuses
returns-in_err-clusters_within-clause-refuses c =
    let g = numbers_of c.args.given.now in
    failed c.from_residual-in_err-clusters_within.result _ c.from_residual-in_err-clusters_within.ensures.1
    (by_solver g c.in_ok-planar.planar.instance (rw c.large.ensures.value at c.in_ok-planar.ensures.gives) (IsFitFault large_limits g) (inl tt)
    (WeakenedTablesExceed table_limit) weakened_exceeded c.in_err-clusters_within.field-0.0 c.in_err-clusters_within.ensures.too_large)
