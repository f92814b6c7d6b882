use Rattle.std.proofs.Common.{ℕ, sym, ◌∙◌, subst}
use Rattle.sg_model.specs.declared.refusal.Fault.TheVariants.{Refused}
use Rattle.sg_model.specs.declared.refusal.Refusal.TheVariants.{UnknownKind}
use Rattle.sg_reader.specs.Body.{general_fault}
use Rattle.sg_reader.specs.ReadInstance.{HoldsGeneral}
use Rattle.sg_reader.specs.Ended.{RefusesNext}
use Rattle.sg_reader.proofs.GeneralLaws.{other-refused}
use Rattle.sg_reader.proofs.general.GeneralBodyGather.take.Goals as goal

pub returns-else-begins-3-clause-fault : goal.returns-else-begins-3-clause-fault
returns-else-begins-3-clause-fault c =
    subst (λ (k : ℕ). RefusesNext (λ s. general_fault s.n) HoldsGeneral c.args.self.now c.args.row.now (Refused (UnknownKind k))) (sym c.at.ensures.value)
    (other-refused _ _ (sym c.begins.ensures ∙ c.if-begins.false) (sym c.begins-else-begins.ensures ∙ c.if-begins-2.false)
    (sym c.begins-else-begins-2.ensures ∙ c.if-begins-3.false) c.requires.other)
