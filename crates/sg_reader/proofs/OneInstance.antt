-- Records give one instance at most or have one refusal at most, and never both.
use Rattle.std.proofs.Common.{◌≡◌, List, [], ◌∷◌, Some, None, sym, ap, subst, ◌∙◌}
use Rattle.std.proofs.lemmas.Option.{none-some, same_Some}
use Rattle.sg_model.specs.declared.refusal.Refusal.{Refusal}
use Rattle.sg_model.specs.Faults.{IsRefusalOf}
use Rattle.sg_model.specs.Ising.{Ising}
use Rattle.sg_model.specs.OneAnswer.{HasOneAnswer}
use Rattle.sg_model.specs.Rotation.{IsRotation}
use Rattle.sg_model.specs.Seam.{IsSeam}
use Rattle.sg_model.proofs.OneFault.{refusal-none, refusal-one}
use Rattle.sg_reader.specs.declared.header.Header.{Header}
use Rattle.sg_reader.specs.Kept.{Kept}
use Rattle.sg_reader.specs.Header.{header_fault, header_of}
use Rattle.sg_reader.specs.Body.{instance_of, record_fault}
use Rattle.sg_reader.specs.Ended.{Leaving, RefusesRecords}
use Rattle.sg_reader.specs.ReadInstance.{AtFirst, AtOne, AtWhole, Behind, ReadsBody, ReadsInstance, RefusesBody, RefusesInstance, StatesInstance, WithoutFirst}
use Rattle.sg_reader.proofs.OneEnd.{first-same, others-same, pair-same, records-one_answer}

-- the records behind the first
pub body-one_answer : (header : Header) (records : List Kept) → HasOneAnswer (Leaving (ReadsBody header records)) (Leaving (RefusesBody header records))
body-one_answer header records = record {
  apart = λ p r given bad. apart p r given bad;
  one = λ p q given other. ended.one p q given.states other.states;
  named = λ r s bad other. named r s bad other;
}
  where
    ended : HasOneAnswer (Leaving (StatesInstance header records)) (Leaving (RefusesRecords (record_fault header) records))
    ended = records-one_answer (record_fault header) (instance_of header) records

    apart : (p : Ising × List Kept) (r : Refusal × List Kept) → ReadsBody header records p.0 p.1 → RefusesBody header records r.0 r.1 → ⊥
    apart p r given (AtOne bad) = ended.apart p r given.states bad
    apart p r given (AtWhole inst states bad) =
        let same : p.0 ≡ inst = ap (λ (a : Ising × List Kept). a.0) (ended.one p (inst, r.1) given.states states) in
        refusal-none inst r.0 (subst IsRotation same given.rotation) (subst IsSeam same given.seam) bad

    named : (r s : Refusal × List Kept) → RefusesBody header records r.0 r.1 → RefusesBody header records s.0 s.1 → r ≡ s
    named r s (AtOne p) (AtOne q) = ended.named r s p q
    named r s (AtOne p) (AtWhole inst states q) = absurd (ended.apart (inst, s.1) r states p)
    named r s (AtWhole inst states p) (AtOne q) = absurd (ended.apart (inst, r.1) s states q)
    named r s (AtWhole inst states p) (AtWhole inst2 states2 q) =
        let both : (inst, r.1) ≡ (inst2, s.1) = ended.one (inst, r.1) (inst2, s.1) states states2 in
        let same : inst ≡ inst2 = ap (λ (a : Ising × List Kept). a.0) both in
        pair-same r s (refusal-one inst2 r.0 s.0 (subst (λ (i : Ising). IsRefusalOf i r.0) same p) q) (ap (λ (a : Ising × List Kept). a.1) both)

-- what the first record says, where it passes
record Begins (records : List Kept) (first : Kept) (more : List Kept) (header : Header) : Type 0 where
  split : records ≡ first ∷ more
  passes : header_fault first ≡ None
  says : header_of first ≡ Some header

record IsSameBegin (more more2 : List Kept) (header header2 : Header) : Type 0 where
  rest : more ≡ more2
  head : header ≡ header2

begins-once : (records : List Kept) (first first2 : Kept) (more more2 : List Kept) (header header2 : Header) → Begins records first more header
    → Begins records first2 more2 header2 → IsSameBegin more more2 header header2
begins-once records first first2 more more2 header header2 p q =
    let same : first ∷ more ≡ first2 ∷ more2 = sym p.split ∙ q.split in
    record {
      rest = others-same first first2 more more2 same;
      head = same_Some header header2 (sym p.says ∙ ap header_of (first-same first first2 more more2 same) ∙ q.says);
    }

-- all records
pub instance-one_answer : (records : List Kept) → HasOneAnswer (Leaving (ReadsInstance records)) (Leaving (RefusesInstance records))
instance-one_answer records = record {
  apart = λ p r given bad. apart p r given bad;
  one = λ p q given other. one p q given other;
  named = λ r s bad other. named r s bad other;
}
  where
    begins : (p : Ising × List Kept) (given : ReadsInstance records p.0 p.1) → Begins records given.first given.more given.header
    begins p given = record { split = given.split; passes = given.passes; says = given.says }

    apart : (p : Ising × List Kept) (r : Refusal × List Kept) → ReadsInstance records p.0 p.1 → RefusesInstance records r.0 r.1 → ⊥
    apart p r given (WithoutFirst none unended nothing) = let e : [] ≡ given.first ∷ given.more = sym none ∙ given.split in cc e
    apart p r given (AtFirst first split bad) =
        none-some r.0 (sym given.passes ∙ ap header_fault (first-same given.first first given.more r.1 (sym given.split ∙ split)) ∙ bad)
    apart p r given (Behind first more header split passes says bad) =
        let same = begins-once records given.first first given.more more given.header header (begins p given)
        (record { split = split; passes = passes; says = says }) in
        (body-one_answer header more).apart p r (rw (same.rest, same.head) at given.reads) bad

    one : (p q : Ising × List Kept) → ReadsInstance records p.0 p.1 → ReadsInstance records q.0 q.1 → p ≡ q
    one p q given other =
        let same = begins-once records given.first other.first given.more other.more given.header other.header (begins p given) (begins q other) in
        (body-one_answer other.header other.more).one p q (rw (same.rest, same.head) at given.reads) other.reads

    named : (r s : Refusal × List Kept) → RefusesInstance records r.0 r.1 → RefusesInstance records s.0 s.1 → r ≡ s
    named r s (WithoutFirst none unended nothing) (WithoutFirst none2 unended2 nothing2) = pair-same r s (unended ∙ sym unended2) (nothing ∙ sym nothing2)
    named r s (WithoutFirst none unended nothing) (AtFirst first split bad) = let e : [] ≡ first ∷ s.1 = sym none ∙ split in absurd (cc e)
    named r s (WithoutFirst none unended nothing) (Behind first more header split passes says bad) =
        let e : [] ≡ first ∷ more = sym none ∙ split in absurd (cc e)
    named r s (AtFirst first split bad) (WithoutFirst none unended nothing) = let e : [] ≡ first ∷ r.1 = sym none ∙ split in absurd (cc e)
    named r s (AtFirst first split bad) (AtFirst first2 split2 bad2) =
        let same : first ∷ r.1 ≡ first2 ∷ s.1 = sym split ∙ split2 in
        pair-same r s (same_Some r.0 s.0 (sym bad ∙ ap header_fault (first-same first first2 r.1 s.1 same) ∙ bad2)) (others-same first first2 r.1 s.1 same)
    named r s (AtFirst first split bad) (Behind first2 more header split2 passes says refused) =
        absurd (none-some r.0 (sym passes ∙ ap header_fault (first-same first2 first more r.1 (sym split2 ∙ split)) ∙ bad))
    named r s (Behind first more header split passes says refused) (WithoutFirst none unended nothing) =
        let e : [] ≡ first ∷ more = sym none ∙ split in absurd (cc e)
    named r s (Behind first more header split passes says refused) (AtFirst first2 split2 bad) =
        absurd (none-some s.0 (sym passes ∙ ap header_fault (first-same first first2 more s.1 (sym split ∙ split2)) ∙ bad))
    named r s (Behind first more header split passes says bad) (Behind first2 more2 header2 split2 passes2 says2 bad2) =
        let same = begins-once records first first2 more more2 header header2 (record { split = split; passes = passes; says = says })
        (record { split = split2; passes = passes2; says = says2 }) in
        (body-one_answer header2 more2).named r s (rw (same.rest, same.head) at bad) bad2
