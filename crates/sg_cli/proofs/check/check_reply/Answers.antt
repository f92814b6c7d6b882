use Rattle.std.proofs.lemmas.Result.{IfOk-weaker}
use Rattle.sg_report.specs.declared.reply.Reply.{Reply}
use Rattle.sg_input.specs.Input.{RefusesProof}
use Rattle.sg_cli.specs.Served.{AnswersCheck, Judged, PrintsVerdict, ProofFaultNamed}
use Rattle.sg_report.proofs.FaultReplies.{answers_fault}
use Rattle.sg_model.specs.Faults.{OrNoMemory}
use Rattle.sg_cli.proofs.check.check_reply.Goals as goal

pub returns-in-Ok-clause-served : goal.returns-in-Ok-clause-served
returns-in-Ok-clause-served c =
    IfOk-weaker c.verdict_reply.result
    (λ (reply : Reply). PrintsVerdict c.in-Ok.proof.instance c.in-Ok.proof.stated reply.text.items reply.status)
    (λ (reply : Reply). AnswersCheck c.args.bytes.now reply.text.items reply.status)
    (λ reply judged. Judged c.in-Ok.proof.instance c.in-Ok.proof.stated c.in-Ok.ensures.gives judged)
    c.verdict_reply.ensures.served

pub returns-in-Err-clause-served : goal.returns-in-Err-clause-served
returns-in-Err-clause-served c =
    answers_fault c.refuse_fault.result c.in-Err.fault (OrNoMemory (RefusesProof c.args.bytes.now)) (AnswersCheck c.args.bytes.now) c.in-Err.ensures.refuses
    (λ refusal text status shown line. ProofFaultNamed refusal shown line)
    c.refuse_fault.ensures.named
