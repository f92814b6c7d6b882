use Rattle.std.proofs.lemmas.Result.{IfOk-weaker}
use Rattle.sg_report.specs.declared.reply.Reply.{Reply}
use Rattle.sg_input.specs.Input.{RefusesText}
use Rattle.sg_cli.specs.Served.{AnswersFit, AnswersStudy, FaultNamed, Studied}
use Rattle.sg_report.proofs.FaultReplies.{answers_fault}
use Rattle.sg_model.specs.Faults.{OrNoMemory}
use Rattle.sg_cli.proofs.study.study_reply.Goals as goal

pub returns-in-Ok-clause-served : goal.returns-in-Ok-clause-served
returns-in-Ok-clause-served c =
    IfOk-weaker c.fit_reply.result
    (λ (reply : Reply). AnswersFit c.args.study c.in-Ok.planar.instance reply.text.items reply.status)
    (λ (reply : Reply). AnswersStudy c.args.study c.args.bytes.now reply.text.items reply.status)
    (λ reply served. Studied c.in-Ok.planar.instance c.in-Ok.ensures.gives served)
    c.fit_reply.ensures.served

pub returns-in-Err-clause-served : goal.returns-in-Err-clause-served
returns-in-Err-clause-served c =
    answers_fault c.refuse_fault.result c.in-Err.fault (OrNoMemory (RefusesText c.args.bytes.now))
    (AnswersStudy c.args.study c.args.bytes.now) c.in-Err.ensures.refuses
    (λ refusal text status shown line. FaultNamed refusal shown line)
    c.refuse_fault.ensures.named
