use Rattle.std.proofs.Common.{ℕ, subst}
use Rattle.std.proofs.lemmas.Result.{IfErr-weaker, IfOk-weaker}
use Rattle.sg_reader.specs.Ended.{StatesToEnd, RefusesRecords, Fails}
use Rattle.sg_graph_text.specs.Graph.{body_fault, body_graph}
use Rattle.sg_graph_text.proofs.ReadLaws.{behind-fault, behind-graph}
use Rattle.sg_reader.proofs.RestLaws.{failed}
use Rattle.sg_graph_text.proofs.read.read_graph.Goals as goal

pub returns-in_err-nodes-clause-fault : goal.returns-in_err-nodes-clause-fault
returns-in_err-nodes-clause-fault c = failed _ _ c.from_residual.ensures.1 c.in_err-nodes.ensures.fault

pub returns-clause-read : goal.returns-clause-read
returns-clause-read c = IfOk-weaker _ _ _ (λ g st. behind-graph _ _ _ _ g _ c.in_ok-nodes.ensures.split c.in_ok-nodes.ensures.passes
    (subst (λ (n : ℕ). StatesToEnd (body_fault c.args.terms n) (body_graph n) c.next_size.new.rows g c.read_body.new.records) c.in_ok-nodes.ensures.value st))
    c.read_body.ensures.read

pub returns-clause-fault : goal.returns-clause-fault
returns-clause-fault c = IfErr-weaker _ _ _ (λ e bad. behind-fault _ _ _ _ _ e c.in_ok-nodes.ensures.split c.in_ok-nodes.ensures.passes
    (subst (λ (n : ℕ). Fails (RefusesRecords (body_fault c.args.terms n) c.next_size.new.rows) c.next_size.new.rows c.read_body.new.records e)
    c.in_ok-nodes.ensures.value bad)) c.read_body.ensures.fault
