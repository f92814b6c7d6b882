use Rattle.sg_lattice.specs.declared.kind.Kind.TheVariants.{Square}
use Rattle.sg_planar.specs.Fit.{IsUnfit}
use Rattle.sg_draws.specs.Drawn.{AnswersSample, SampleUnfit, drawn_lattice}
use Rattle.sg_report.proofs.FaultReplies.{answers_fault}
use Rattle.sg_model.specs.Faults.{OrNoMemory}
use Rattle.sg_draws.proofs.sample.sample_reply.Goals as goal

pub returns-in-Err-clause-served : goal.returns-in-Err-clause-served
returns-in-Err-clause-served g c =
    let law = c.args.law.now in
    let sample = drawn_lattice Square c.args.size ((goal.Disorder-dyn g (law.vtable, law.value)).seeded law.value c.args.seed) in
    answers_fault c.refuse_fault.result c.in-Err.fault (OrNoMemory (IsUnfit sample)) (AnswersSample sample) c.in-Err.ensures.unfit
    (λ refusal text status shown line. SampleUnfit refusal shown line)
    c.refuse_fault.ensures.named
