use Rattle.sg_draws.specs.Drawn.{AnswersWidths, IsWidthFault, WidthUnfit}
use Rattle.sg_report.proofs.FaultReplies.{answers_fault}
use Rattle.sg_draws.proofs.widths.widths_reply.Goals as goal

pub returns-in-Err-clause-served : goal.returns-in-Err-clause-served
returns-in-Err-clause-served g c =
    let law = c.args.law.now in
    let stream = (goal.Disorder-dyn g (law.vtable, law.value)).seeded law.value c.args.seed in
    answers_fault c.refuse_fault.result c.in-Err.fault (IsWidthFault c.args.size stream) (AnswersWidths c.args.size c.args.count stream) c.in-Err.ensures.unfit
    (λ refusal text status shown line. WidthUnfit refusal shown line)
    c.refuse_fault.ensures.named
