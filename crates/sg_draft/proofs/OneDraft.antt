-- A draft gives one instance at most or has one refusal at most, and never both.
use Rattle.std.proofs.Common.{◌≡◌, inl, inr, sym, ◌∙◌, subst}
use Rattle.std.proofs.lemmas.Option.{none-some, same_Some}
use Rattle.sg_model.specs.declared.refusal.Refusal.{Refusal}
use Rattle.sg_model.specs.Ising.{Ising}
use Rattle.sg_model.specs.OneAnswer.{HasOneAnswer}
use Rattle.sg_model.specs.WellFormed.{IsInstance}
use Rattle.sg_model.proofs.OneFault.{refusal-none, refusal-one}
use Rattle.sg_draft.specs.declared.limits.Limits.{Limits}
use Rattle.sg_draft.specs.Draft.{Draft, IsDraftRefusal, IsDrafted, drafted}

pub draft-one_answer : (most : Limits) (draft : Draft) → HasOneAnswer (IsDrafted most draft) (IsDraftRefusal most draft)
draft-one_answer most draft = record {
  apart = λ inst r given bad. apart inst r given bad;
  one = λ x y p q. p.value ∙ sym q.value;
  named = λ r s p q. named r s p q;
}
  where
    apart : (inst : Ising) (r : Refusal) → IsDrafted most draft inst → IsDraftRefusal most draft r → ⊥
    apart inst r given (inl failed) = none-some r (sym given.passes ∙ failed)
    apart inst r given (inr whole) =
        let good : IsInstance (drafted draft) = subst IsInstance given.value given.instance in
        refusal-none (drafted draft) r good.rotation good.seam whole.1

    named : (r s : Refusal) → IsDraftRefusal most draft r → IsDraftRefusal most draft s → r ≡ s
    named r s (inl p) (inl q) = same_Some r s (sym p ∙ q)
    named r s (inl p) (inr q) = absurd (none-some r (sym q.0 ∙ p))
    named r s (inr p) (inl q) = absurd (none-some s (sym p.0 ∙ q))
    named r s (inr p) (inr q) = refusal-one (drafted draft) r s p.1 q.1
