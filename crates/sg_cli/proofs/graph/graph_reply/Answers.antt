use Rattle.std.proofs.lemmas.Result.{IfOk-weaker}
use Rattle.sg_report.specs.declared.reply.Reply.{Reply}
use Rattle.sg_graph_text.specs.Network.{RefusesNetwork}
use Rattle.sg_cli.specs.Graphs.{AnswersTask, takes_terms}
use Rattle.sg_cli.specs.Served.{AnswersGraph, GraphFaultNamed, GraphSolved}
use Rattle.sg_report.proofs.FaultReplies.{answers_fault}
use Rattle.sg_model.specs.Faults.{OrNoMemory}
use Rattle.sg_cli.proofs.graph.graph_reply.Goals as goal

pub returns-in-Ok-clause-served : goal.returns-in-Ok-clause-served
returns-in-Ok-clause-served c =
    IfOk-weaker c.network_reply.result
    (λ (reply : Reply). AnswersTask c.args.task c.in-Ok.network.web c.in-Ok.network.terminals reply.text.items reply.status)
    (λ (reply : Reply). AnswersGraph c.args.task c.args.bytes.now reply.text.items reply.status)
    (λ reply served. GraphSolved c.in-Ok.network.web c.in-Ok.network.terminals (rw c.takes_terminals.ensures at c.in-Ok.ensures.gives) served)
    c.network_reply.ensures.served

pub returns-in-Err-clause-served : goal.returns-in-Err-clause-served
returns-in-Err-clause-served c =
    answers_fault c.refuse_fault.result c.in-Err.fault (OrNoMemory (RefusesNetwork (takes_terms c.args.task) c.args.bytes.now))
    (AnswersGraph c.args.task c.args.bytes.now) (rw c.takes_terminals.ensures at c.in-Err.ensures.refuses)
    (λ refusal text status shown line. GraphFaultNamed refusal shown line)
    c.refuse_fault.ensures.named
