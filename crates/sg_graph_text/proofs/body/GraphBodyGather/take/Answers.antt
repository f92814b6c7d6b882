use Rattle.std.proofs.Common.{◌≡◌, ℕ, false, sym, ◌∙◌, subst, ◌&&◌}
use Rattle.sg_model.specs.declared.refusal.Fault.TheVariants.{Refused}
use Rattle.sg_model.specs.declared.refusal.Refusal.TheVariants.{UnknownKind}
use Rattle.sg_reader.specs.Ended.{RefusesNext}
use Rattle.sg_graph_text.specs.Graph.{body_fault, says_term, HoldsGraph}
use Rattle.sg_graph_text.proofs.BodyLaws.{no_term, not_allowed, other-refused}
use Rattle.sg_graph_text.proofs.body.GraphBodyGather.take.Goals as goal
use Rattle.sg_graph_text.proofs.body.GraphBodyGather.take.Goals.{else-self-via-then-self+else-begins-2, else-self-via-else-self}

pub returns-else-self-clause-fault : goal.returns-else-self-clause-fault
returns-else-self-clause-fault c =
    let old = c.args.self.now in
    let r = c.args.row.now in
    let none : (old.terms && says_term r) ≡ false = elim c.else-self.branch [
      | else-self-via-then-self+else-begins-2 w ↦ no_term old.terms _ (sym w.begins-then-self.ensures ∙ w.if-begins-2.false)
      | else-self-via-else-self w ↦ not_allowed old.terms _ w.if-self.false
    ] in
    subst (λ (k : ℕ). RefusesNext (λ s. body_fault s.terms s.nodes) HoldsGraph old r (Refused (UnknownKind k))) (sym c.at.ensures.value)
    (other-refused old r (sym c.begins.ensures ∙ c.if-begins.false) none c.requires.other)
