use Rattle.std.proofs.Common.{◌∙◌, ap, sym, unwrap_or}
use Rattle.sg_graph_text.specs.Graph.{terminals_fault, terminals_of}
use Rattle.sg_graph_text.proofs.BodyLaws.{end-bare, end-passes, end-terminals, graph-held, sound-held}
use Rattle.sg_reader.proofs.RestLaws.{failed}
use Rattle.sg_graph_text.proofs.body.GraphBody.graph.Goals as goal

pub returns-in_err-check_shape-clause-fault : goal.returns-in_err-check_shape-clause-fault
returns-in_err-check_shape-clause-fault c = failed _ _ c.from_residual.ensures.1 (end-bare _ _ _ c.requires.end c.in_err-check_shape.ensures.refused)

pub returns-in_err-terminals-clause-fault : goal.returns-in_err-terminals-clause-fault
returns-in_err-terminals-clause-fault c =
    let bad = rw (c.as_slice.ensures, c.unwrap_or-entries.ensures, c.new.ensures) at c.in_err-terminals.ensures.fault in
    failed _ _ c.from_residual-in_err-terminals.ensures.1 (end-terminals _ _ _ c.requires.end c.in_ok-check_shape.ensures.passes bad)

pub returns-clause-passes : goal.returns-clause-passes
returns-clause-passes c =
    let entries = c.as_slice.ensures ∙ c.unwrap_or-entries.ensures ∙ ap (unwrap_or c.args.self.entries) c.new.ensures in
    end-passes _ _ c.requires.end c.in_ok-check_shape.ensures.passes (ap (terminals_fault c.args.self.nodes) (sym entries) ∙ c.in_ok-terminals.ensures.passes)

pub returns-clause-value : goal.returns-clause-value
returns-clause-value c =
    let entries = c.as_slice.ensures ∙ c.unwrap_or-entries.ensures ∙ ap (unwrap_or c.args.self.entries) c.new.ensures in
    graph-held _ _ (c.in_ok-terminals.ensures.value ∙ ap (terminals_of c.args.self.nodes) entries)

pub returns-clause-sound : goal.returns-clause-sound
returns-clause-sound c =
    let entries = c.as_slice.ensures ∙ c.unwrap_or-entries.ensures ∙ ap (unwrap_or c.args.self.entries) c.new.ensures in
    sound-held _ _ (c.in_ok-terminals.ensures.value ∙ ap (terminals_of c.args.self.nodes) entries) c.in_ok-terminals.ensures.even c.requires.held
