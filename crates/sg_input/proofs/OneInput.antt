-- An input gives one fit instance at most or has one refusal at most, and never both; and so an instance with a proof.
use Rattle.std.proofs.Common.{◌≡◌, ℕ, true, false, List, [], refl, sym, ap, ap₂, subst, ◌∙◌}
use Rattle.std.proofs.lemmas.Bool.{both_ways}
use Rattle.sg_model.specs.declared.refusal.Refusal.{Refusal}
use Rattle.sg_model.specs.Ising.{Ising}
use Rattle.sg_model.specs.OneAnswer.{HasOneAnswer}
use Rattle.sg_check.specs.declared.packing.ResultText.{ResultText}
use Rattle.sg_reader.specs.Kept.{Kept, kept_of}
use Rattle.sg_reader.specs.Ended.{Leaving, RefusesAlone}
use Rattle.sg_reader.specs.ReadInstance.{IsGiven, ReadsInstance, RefusesInstance}
use Rattle.sg_reader.specs.Result.{ReadsResult, RefusesResult, result_fault, result_of}
use Rattle.sg_reader.proofs.GivenInstance.{records-given}
use Rattle.sg_reader.proofs.OneEnd.{alone-one_answer, pair-same, records-one_answer}
use Rattle.sg_reader.proofs.OneInstance.{instance-one_answer}
use Rattle.sg_json.specs.Text.{is_object_text}
use Rattle.sg_json.specs.ReadJson.{RefusesJson}
use Rattle.sg_json.proofs.GivenObject.{json-given}
use Rattle.sg_json.proofs.OneObject.{json-one_answer}
use Rattle.sg_planar.specs.Fit.{IsFit, IsUnfit}
use Rattle.sg_planar.proofs.OneFitness.{fit_not_unfit, unfit-one}
use Rattle.sg_input.specs.Input.{AtFitness, BehindInstance, ByJson, ByRecords, GivesFit, GivesInstance, GivesProof, InInstance, OfJson, OfRecords}
use Rattle.sg_input.specs.Input.{RefusesProof, RefusesText}

module _ (bytes : List ℕ) where
  records-one : HasOneAnswer (λ inst. ReadsInstance (kept_of bytes) inst []) (RefusesAlone (ReadsInstance (kept_of bytes)) (RefusesInstance (kept_of bytes)))
  records-one = alone-one_answer (ReadsInstance (kept_of bytes)) (RefusesInstance (kept_of bytes)) (instance-one_answer (kept_of bytes))

  -- a text gives one instance
  pub text-one : (x y : Ising) → GivesInstance bytes x → GivesInstance bytes y → x ≡ y
  text-one x y (ByJson object p) (ByJson object2 q) = (json-one_answer bytes).one x y p q
  text-one x y (ByJson object p) (ByRecords other q) = absurd (both_ways (is_object_text bytes) other object)
  text-one x y (ByRecords other p) (ByJson object q) = absurd (both_ways (is_object_text bytes) other object)
  text-one x y (ByRecords other p) (ByRecords other2 q) = records-one.one x y p q

  -- none where it is refused before it is seen whole
  json-none : (inst : Ising) (r : Refusal) → GivesInstance bytes inst → is_object_text bytes ≡ true → RefusesJson bytes r → ⊥
  json-none inst r (ByJson object p) object2 bad = (json-one_answer bytes).apart inst r p bad
  json-none inst r (ByRecords other p) object bad = both_ways (is_object_text bytes) other object

  records-none : (inst : Ising) (r : Refusal) → GivesInstance bytes inst → is_object_text bytes ≡ false
      → RefusesAlone (ReadsInstance (kept_of bytes)) (RefusesInstance (kept_of bytes)) r → ⊥
  records-none inst r (ByJson object p) other bad = both_ways (is_object_text bytes) other object
  records-none inst r (ByRecords other p) other2 bad = records-one.apart inst r p bad

  -- an instance that is fit, or the refusal
  pub input-one_answer : HasOneAnswer (GivesFit bytes) (RefusesText bytes)
  input-one_answer = record {
    apart = λ inst r given bad. apart inst r given bad;
    one = λ x y p q. text-one x y p.gives q.gives;
    named = λ r s p q. named r s p q;
  }
    where
      apart : (inst : Ising) (r : Refusal) → GivesFit bytes inst → RefusesText bytes r → ⊥
      apart inst r given (OfJson object bad) = json-none inst r given.gives object bad
      apart inst r given (OfRecords other bad) = records-none inst r given.gives other bad
      apart inst r given (AtFitness other gives unfit) =
          fit_not_unfit inst given.fit r (subst (λ (i : Ising). IsUnfit i r) (text-one other inst gives given.gives) unfit)

      named : (r s : Refusal) → RefusesText bytes r → RefusesText bytes s → r ≡ s
      named r s (OfJson object bad) (OfJson object2 bad2) = (json-one_answer bytes).named r s bad bad2
      named r s (OfJson object bad) (OfRecords other bad2) = absurd (both_ways (is_object_text bytes) other object)
      named r s (OfJson object bad) (AtFitness inst gives unfit) = absurd (json-none inst r gives object bad)
      named r s (OfRecords other bad) (OfJson object bad2) = absurd (both_ways (is_object_text bytes) other object)
      named r s (OfRecords other bad) (OfRecords other2 bad2) = records-one.named r s bad bad2
      named r s (OfRecords other bad) (AtFitness inst gives unfit) = absurd (records-none inst r gives other bad)
      named r s (AtFitness inst gives unfit) (OfJson object bad) = absurd (json-none inst s gives object bad)
      named r s (AtFitness inst gives unfit) (OfRecords other bad) = absurd (records-none inst s gives other bad)
      named r s (AtFitness inst gives unfit) (AtFitness inst2 gives2 unfit2) =
          unfit-one inst2 r s (subst (λ (i : Ising). IsUnfit i r) (text-one inst inst2 gives gives2) unfit) unfit2

  -- the result behind an instance
  result-one : (behind : List Kept) → HasOneAnswer (λ stated. ReadsResult behind stated []) (RefusesAlone (ReadsResult behind) (RefusesResult behind))
  result-one behind = alone-one_answer (ReadsResult behind) (RefusesResult behind) (records-one_answer result_fault result_of behind)

  -- an instance with a proof, or the refusal
  pub proof-one_answer : HasOneAnswer (λ (p : Ising × ResultText). GivesProof bytes p.0 p.1) (RefusesProof bytes)
  proof-one_answer = record {
    apart = λ p r given bad. apart p r given bad;
    one = λ p q given other. one p q given other;
    named = λ r s bad other. named r s bad other;
  }
    where
      first : HasOneAnswer (Leaving (ReadsInstance (kept_of bytes))) (Leaving (RefusesInstance (kept_of bytes)))
      first = instance-one_answer (kept_of bytes)

      behind-same : (x y : Ising) (a b : List Kept) → ReadsInstance (kept_of bytes) x a → ReadsInstance (kept_of bytes) y b → a ≡ b
      behind-same x y a b p q = ap (λ (l : Ising × List Kept). l.1) (first.one (x, a) (y, b) p q)

      apart : (p : Ising × ResultText) (r : Refusal) → GivesProof bytes p.0 p.1 → RefusesProof bytes r → ⊥
      apart p r given (InInstance rest bad) = first.apart (p.0, given.behind) (r, rest) given.reads bad
      apart p r given (BehindInstance inst behind reads bad) =
          (result-one behind).apart p.1 r
          (subst (λ (l : List Kept). ReadsResult l p.1 []) (behind-same p.0 inst given.behind behind given.reads reads) given.states) bad

      one : (p q : Ising × ResultText) → GivesProof bytes p.0 p.1 → GivesProof bytes q.0 q.1 → p ≡ q
      one p q given other =
          pair-same p q (ap (λ (l : Ising × List Kept). l.0) (first.one (p.0, given.behind) (q.0, other.behind) given.reads other.reads))
          ((result-one other.behind).one p.1 q.1
          (subst (λ (l : List Kept). ReadsResult l p.1 []) (behind-same p.0 q.0 given.behind other.behind given.reads other.reads) given.states)
          other.states)

      named : (r s : Refusal) → RefusesProof bytes r → RefusesProof bytes s → r ≡ s
      named r s (InInstance rest bad) (InInstance rest2 bad2) = ap (λ (a : Refusal × List Kept). a.0) (first.named (r, rest) (s, rest2) bad bad2)
      named r s (InInstance rest bad) (BehindInstance inst behind reads bad2) = absurd (first.apart (inst, behind) (r, rest) reads bad)
      named r s (BehindInstance inst behind reads bad) (InInstance rest bad2) = absurd (first.apart (inst, behind) (s, rest) reads bad2)
      named r s (BehindInstance inst behind reads bad) (BehindInstance inst2 behind2 reads2 bad2) =
          (result-one behind2).named r s
          (subst (λ (l : List Kept). RefusesAlone (ReadsResult l) (RefusesResult l) r) (behind-same inst inst2 behind behind2 reads reads2) bad) bad2

-- what a text gives is an instance within the limits
pub text-given : (bytes : List ℕ) (inst : Ising) → GivesInstance bytes inst → IsGiven inst
text-given bytes inst (ByJson object given) = json-given bytes inst given
text-given bytes inst (ByRecords other given) = records-given (kept_of bytes) inst [] given

-- and so what stands in front of a proof
pub proof-given : (bytes : List ℕ) (inst : Ising) (stated : ResultText) → GivesProof bytes inst stated → IsGiven inst
proof-given bytes inst stated given = records-given (kept_of bytes) inst given.behind given.reads
