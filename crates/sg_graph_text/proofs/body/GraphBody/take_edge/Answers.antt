use Rattle.std.proofs.Common.{◌∷◌, ◌++◌, [], ◌∙◌, ap, refl, subst}
use Rattle.sg_graph.specs.declared.web.Edge.{Edge}
use Rattle.sg_graph.specs.Web.{IsEdge}
use Rattle.sg_graph_text.proofs.BodyLaws.{edge-refused, edge-taken}
use Rattle.sg_reader.proofs.RestLaws.{failed}
use Rattle.sg_graph_text.proofs.body.GraphBody.take_edge.Goals as goal

pub read_edge-requires-clause-some : goal.read_edge-requires-clause-some
read_edge-requires-clause-some c = c.requires.held.held.some

pub read_edge-requires-clause-few : goal.read_edge-requires-clause-few
read_edge-requires-clause-few c = rw c.len.ensures c.requires.held.held.few

pub returns-in_err-edge-clause-fault : goal.returns-in_err-edge-clause-fault
returns-in_err-edge-clause-fault c = failed _ _ c.from_residual.ensures.1 (edge-refused _ _ _ _ c.len.ensures c.requires.word c.in_err-edge.ensures.refused)

pub returns-clause-taken : goal.returns-clause-taken
returns-clause-taken c = edge-taken _ _ _ _ c.len.ensures c.requires.word c.in_ok-edge.ensures.passes refl refl refl
    (c.in_ok-push.ensures.ok ∙ ap (λ (e : Edge). c.args.self.now.edges ++ e ∷ []) c.in_ok-edge.ensures.value)
    (subst (λ (e : Edge). IsEdge c.args.self.now.nodes e) c.in_ok-edge.ensures.value c.in_ok-edge.ensures.sound) c.in_ok-edge.ensures.room
