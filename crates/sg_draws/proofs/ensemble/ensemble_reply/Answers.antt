use Rattle.std.proofs.Common.{rules}
use Rattle.sg_lattice.specs.declared.kind.Kind.TheVariants.{Cylinder}
use Rattle.sg_planar.specs.Fit.{IsUnfit}
use Rattle.sg_draws.specs.Drawn.{AnswersEnsemble, EnsembleUnfit, drawn_lattice}
use Rattle.sg_report.proofs.FaultReplies.{answers_fault}
use Rattle.sg_model.specs.Faults.{OrNoMemory}
use Rattle.sg_draws.proofs.ensemble.ensemble_reply.Goals as goal

pub returns-in-Err-clause-served : goal.returns-in-Err-clause-served
returns-in-Err-clause-served g c =
    let law = c.args.law.now in
    let stream = (goal.Disorder-dyn g (law.vtable, law.value)).seeded law.value c.args.seed in
    answers_fault c.refuse_fault.result c.in-Err.fault (OrNoMemory (IsUnfit (drawn_lattice Cylinder c.args.size stream)))
    (AnswersEnsemble c.args.size c.args.count stream) c.in-Err.ensures.unfit
    (λ refusal text status shown line. EnsembleUnfit refusal shown line)
    c.refuse_fault.ensures.named

pub returns-in-Ok-clause-served : goal.returns-in-Ok-clause-served
returns-in-Ok-clause-served g c = search rules
