use Rattle.sg_graph_text.proofs.ReadLaws.{body-fails, body-states, end-fails}
use Rattle.sg_reader.proofs.RestLaws.{failed}
use Rattle.sg_graph_text.proofs.body.read_body.Goals as goal

pub returns-in_err-read_to_end-clause-fault : goal.returns-in_err-read_to_end-clause-fault
returns-in_err-read_to_end-clause-fault c =
    failed _ _ c.from_residual.ensures.1
    (body-fails _ _ c.new-body.result _ _ _ c.new-body.ensures.terms c.new-body.ensures.nodes c.in_err-read_to_end.ensures.fault)

pub graph-requires-clause-end : goal.graph-requires-clause-end
graph-requires-clause-end c = c.in_ok-read_to_end.ensures.ended.ended.ends

pub graph-requires-clause-held : goal.graph-requires-clause-held
graph-requires-clause-held c =
    record { start = c.new-body.result; body = c.in_ok-read_to_end.ensures.ended.body; held = c.in_ok-read_to_end.ensures.ended.held }

pub returns-in_err-graph-clause-fault : goal.returns-in_err-graph-clause-fault
returns-in_err-graph-clause-fault c = failed _ _ c.from_residual-in_err-graph.ensures.1 (end-fails _ _ _ _ _ _
    _ c.in_ok-read_to_end.ensures.ended _ c.new-body.ensures.terms c.new-body.ensures.nodes c.in_err-graph.ensures.fault)

pub returns-clause-read : goal.returns-clause-read
returns-clause-read c =
    let h = c.in_ok-read_to_end.ensures.ended in
    body-states _ _ _ _ _ _ _ h _ c.new-body.ensures.terms c.new-body.ensures.nodes
    (c.in_ok-graph.ensures.passes c.new-body.result h.body h.held) (c.in_ok-graph.ensures.value c.new-body.result h.body h.held)
