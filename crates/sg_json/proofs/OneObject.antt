-- A JSON text gives one instance at most or has one refusal at most, and never both.
use Rattle.std.proofs.Common.{◌≡◌, true, false, List, Some, ℕ, sym, ap, subst, ◌∙◌, arith, true≢false}
use Rattle.std.specs.List.{list_all}
use Rattle.std.proofs.lemmas.Option.{none-some, same_Some}
use Rattle.serde_json.specs.Data.{Data}
use Rattle.sg_model.specs.declared.refusal.Refusal.{Refusal}
use Rattle.sg_model.specs.Ising.{Ising}
use Rattle.sg_model.specs.OneAnswer.{HasOneAnswer}
use Rattle.sg_draft.specs.Draft.{IsDraftRefusal, IsDrafted}
use Rattle.sg_draft.specs.Limits.{program_limits}
use Rattle.sg_draft.proofs.OneDraft.{draft-one_answer}
use Rattle.sg_reader.specs.declared.header.Form.{Form}
use Rattle.sg_json.specs.Members.{draft_of, form_in, is_known, names_in}
use Rattle.sg_json.specs.ReadJson.{Gives, NoData, NoKind, OfData, OfDraft, OtherName, ReadsJson, RefusesData, RefusesJson, SaysData, TooLong}

-- the kind of some data
one_form : (d : Data) (form form2 : Form) → form_in d ≡ Some form → form_in d ≡ Some form2 → form ≡ form2
one_form d form form2 p q = same_Some form form2 (sym p ∙ q)

-- names that may stand beside one kind may stand beside the same kind
names_apart : (d : Data) (form form2 : Form) → form_in d ≡ Some form → form_in d ≡ Some form2 → list_all (is_known form) (names_in d) ≡ true
    → list_all (is_known form2) (names_in d) ≡ false → ⊥
names_apart d form form2 p q known other = true≢false (sym known ∙ ap (λ (f : Form). list_all (is_known f) (names_in d)) (one_form d form form2 p q) ∙ other)

-- what JSON data says
pub data-one_answer : (d : Data) → HasOneAnswer (Gives d) (RefusesData d)
data-one_answer d = record {
  apart = λ inst r given bad. apart inst r given bad;
  one = λ x y p q. (draft-one_answer program_limits (draft_of q.form d)).one x y
      (subst (λ (f : Form). IsDrafted program_limits (draft_of f d) x) (one_form d p.form q.form p.kind q.kind) p.drafted) q.drafted;
  named = λ r s p q. named r s p q;
}
  where
    apart : (inst : Ising) (r : Refusal) → Gives d inst → RefusesData d r → ⊥
    apart inst r given (NoKind none e) = none-some given.form (sym none ∙ given.kind)
    apart inst r given (OtherName form kind other e) = names_apart d given.form form given.kind kind given.names other
    apart inst r given (OfDraft form kind names bad) = (draft-one_answer program_limits (draft_of form d)).apart inst r
        (subst (λ (f : Form). IsDrafted program_limits (draft_of f d) inst) (one_form d given.form form given.kind kind) given.drafted) bad

    named : (r s : Refusal) → RefusesData d r → RefusesData d s → r ≡ s
    named r s (NoKind none e) (NoKind none2 e2) = e ∙ sym e2
    named r s (NoKind none e) (OtherName form kind other e2) = absurd (none-some form (sym none ∙ kind))
    named r s (NoKind none e) (OfDraft form kind names bad) = absurd (none-some form (sym none ∙ kind))
    named r s (OtherName form kind other e) (NoKind none e2) = absurd (none-some form (sym none ∙ kind))
    named r s (OtherName form kind other e) (OtherName form2 kind2 other2 e2) = e ∙ sym e2
    named r s (OtherName form kind other e) (OfDraft form2 kind2 names bad) = absurd (names_apart d form2 form kind2 kind names other)
    named r s (OfDraft form kind names bad) (NoKind none e) = absurd (none-some form (sym none ∙ kind))
    named r s (OfDraft form kind names bad) (OtherName form2 kind2 other e) = absurd (names_apart d form form2 kind kind2 names other)
    named r s (OfDraft form kind names bad) (OfDraft form2 kind2 names2 bad2) = (draft-one_answer program_limits (draft_of form2 d)).named r s
        (subst (λ (f : Form). IsDraftRefusal program_limits (draft_of f d) r) (one_form d form form2 kind kind2) bad) bad2

-- one data is read from a text
one_data : (bytes : List ℕ) (d e : Data) → SaysData bytes d → SaysData bytes e → d ≡ e
one_data bytes d e p q = same_Some d e (sym p.reads ∙ q.reads)

-- a text in JSON
pub json-one_answer : (bytes : List ℕ) → HasOneAnswer (ReadsJson bytes) (RefusesJson bytes)
json-one_answer bytes = record {
  apart = λ inst r given bad. apart inst r given bad;
  one = λ x y p q. (data-one_answer q.value).one x y (subst (λ (d : Data). Gives d x) (one_data bytes p.value q.value p.says q.says) p.gives) q.gives;
  named = λ r s p q. named r s p q;
}
  where
    apart : (inst : Ising) (r : Refusal) → ReadsJson bytes inst → RefusesJson bytes r → ⊥
    apart inst r given (TooLong long e) = omega (arith, given.short, long)
    apart inst r given (NoData short none e) = none-some given.value (sym (none given.says.utf8) ∙ given.says.reads)
    apart inst r given (OfData short d says bad) =
        (data-one_answer d).apart inst r (subst (λ (x : Data). Gives x inst) (one_data bytes given.value d given.says says) given.gives) bad

    named : (r s : Refusal) → RefusesJson bytes r → RefusesJson bytes s → r ≡ s
    named r s (TooLong long e) (TooLong long2 e2) = e ∙ sym e2
    named r s (TooLong long e) (NoData short none e2) = absurd (omega (arith, long, short))
    named r s (TooLong long e) (OfData short d says bad) = absurd (omega (arith, long, short))
    named r s (NoData short none e) (TooLong long e2) = absurd (omega (arith, long, short))
    named r s (NoData short none e) (NoData short2 none2 e2) = e ∙ sym e2
    named r s (NoData short none e) (OfData short2 d says bad) = absurd (none-some d (sym (none says.utf8) ∙ says.reads))
    named r s (OfData short d says bad) (TooLong long e) = absurd (omega (arith, long, short))
    named r s (OfData short d says bad) (NoData short2 none e) = absurd (none-some d (sym (none says.utf8) ∙ says.reads))
    named r s (OfData short d says bad) (OfData short2 d2 says2 bad2) =
        (data-one_answer d2).named r s (subst (λ (x : Data). RefusesData x r) (one_data bytes d d2 says says2) bad) bad2
