-- Records are read up to one end at most, or are refused at one record at most, and never both; over any table of tests.
use Rattle.std.proofs.Common.{◌≡◌, ◌⊎◌, inl, inr, ℕ, zero, suc, ◌+◌, ◌<◌, Bool, List, [], ◌∷◌, ◌++◌, length, take, drop, get_or, Option, Some, None, refl, sym, ap, ◌∙◌, arith, append-nil, drop-cons}
use Rattle.std.specs.Prelude.{cond}
use Rattle.std.proofs.Math.Seq.{drop-length, take-length}
use Rattle.std.proofs.lemmas.List.{take_more}
use Rattle.sg_model.specs.declared.refusal.Refusal.{Refusal}
use Rattle.sg_model.specs.declared.refusal.Refusal.TheVariants.{Trailing, Unended}
use Rattle.sg_model.specs.OneAnswer.{HasOneAnswer}
use Rattle.sg_reader.specs.Kept.{Kept}
use Rattle.sg_reader.specs.Body.{says_end}
use Rattle.sg_reader.specs.Ended.{AtRecord, AtTrailing, IsBody, Leaving, RefusesAlone, RefusesRecords, StatesToEnd, TestTable, WhileRead, WithoutEnd, record_at}

-- pairs with the same parts
pub pair-same : {X Y : Type 0} (p q : X × Y) → p.0 ≡ q.0 → p.1 ≡ q.1 → p ≡ q
pair-same p q first second = λ i. (first i, second i)

-- lists with a first item
pub first-same : {X : Type 0} (x y : X) (xs ys : List X) → x ∷ xs ≡ y ∷ ys → x ≡ y
first-same x y xs ys same = ap (λ l. get_or l 0 x) same

pub others-same : {X : Type 0} (x y : X) (xs ys : List X) → x ∷ xs ≡ y ∷ ys → xs ≡ ys
others-same x y xs ys same = ap (drop 1) same

-- where one outcome tells both what is given and what is refused there is one answer at most
pub one-outcome : {A B : Type 0} (Gives : A → Type 0) (Refuses : B → Type 0) (outcome : A ⊎ B) → ((x : A) → Gives x → outcome ≡ inl x)
    → ((r : B) → Refuses r → outcome ≡ inr r) → HasOneAnswer Gives Refuses
one-outcome {A} {B} Gives Refuses outcome given refused = record {
  apart = λ x r p q. (let e : inl x ≡ inr r = sym (given x p) ∙ refused r q in cc e);
  one = λ x y p q. (let e : ◌≡◌ {A = A ⊎ B} (inl x) (inl y) = sym (given x p) ∙ given y q in cc e);
  named = λ r s p q. (let e : ◌≡◌ {A = A ⊎ B} (inr r) (inr s) = sym (refused r p) ∙ refused s q in cc e);
}

-- how a reading ends, behind a body: what the body states if the next record is an `end` that passes, or the first refusal
module _ {X : Type 0} (fault : TestTable) (stated : List Kept → X) where
  abbrev Outcome : Type 0
  Outcome = (X × List Kept) ⊎ (Refusal × List Kept)

  abbrev tested : Option Refusal → Bool → List Kept → List Kept → Outcome → Outcome
  tested (Some x) end body rest more = inr (x, rest)
  tested None end body rest more = cond end (inl (stated body, rest)) more

  abbrev outcome : List Kept → List Kept → Outcome
  outcome body [] = inr (Unended, [])
  outcome body (r ∷ rest) = tested (fault body r) (says_end r) body rest (outcome (body ++ r ∷ []) rest)

  -- a body that passes is read on
  walked : (body tail : List Kept) → IsBody fault body → (gap k : ℕ) → k + gap ≡ length body → outcome (take k body) (drop k body ++ tail) ≡ outcome body tail
  walked body tail h zero k e =
      let end : k ≡ length body = omega (arith, e) in
      rw (end, take-length body, drop-length body) refl
  walked body tail h (suc gap) k e =
      let none : Kept = record { at = 0; fields = [] } in
      let inside : k < length body = omega (arith, e) in
      let one : k + 1 ≡ suc k = omega arith in
      let more : take (suc k) body ≡ take k body ++ record_at body k ∷ [] = rw one at (take_more body k none inside) in
      rw (drop-cons body k none inside) (rw (h.passes k inside, h.goes_on k none inside, ← more) (walked body tail h gap (suc k) (omega (arith, e))))

  read-on : (records body tail : List Kept) → IsBody fault body → records ≡ body ++ tail → outcome [] records ≡ outcome body tail
  read-on records body tail h split = ap (outcome []) split ∙ walked body tail h (length body) 0 (omega arith)

  -- records up to an `end` have one answer at most
  pub records-one_answer : (records : List Kept) → HasOneAnswer (Leaving (StatesToEnd fault stated records)) (Leaving (RefusesRecords fault records))
  records-one_answer records = one-outcome (Leaving (StatesToEnd fault stated records)) (Leaving (RefusesRecords fault records)) (outcome [] records)
      (λ p given. read-on records given.body (given.last ∷ p.1) given.ended.is_body given.ended.split
      ∙ rw (given.passes, given.ended.ends) (ap (λ (x : X). inl (x, p.1)) (sym given.value))) (λ r bad. refused r bad)
    where
      refused : (r : Refusal × List Kept) → RefusesRecords fault records r.0 r.1 → outcome [] records ≡ inr r
      refused r (AtRecord body q split is_body bad) = read-on records body (q ∷ r.1) is_body split ∙ rw bad refl
      refused r (WithoutEnd is_body unended none) =
          read-on records records [] is_body (sym (append-nil records)) ∙ ap inr (pair-same (Unended, []) r (sym unended) (sym none))

-- and so have those behind which none may stand
pub alone-one_answer : {X : Type 0} (reads : X → List Kept → Type 0) (refuses : Refusal → List Kept → Type 0)
    → HasOneAnswer (Leaving reads) (Leaving refuses) → HasOneAnswer (λ x. reads x []) (RefusesAlone reads refuses)
alone-one_answer {X} reads refuses h = record {
  apart = λ x r given bad. apart x r given bad;
  one = λ x y p q. ap (λ (a : X × List Kept). a.0) (h.one (x, []) (y, []) p q);
  named = λ r s bad other. named r s bad other;
}
  where
    apart : (x : X) (r : Refusal) → reads x [] → RefusesAlone reads refuses r → ⊥
    apart x r given (WhileRead rest bad) = h.apart (x, []) (r, rest) given bad
    apart x r given (AtTrailing y left rest read trailing) =
        let none : [] ≡ trailing.first ∷ rest = ap (λ (a : X × List Kept). a.1) (h.one (x, []) (y, left) given read) ∙ trailing.split in
        cc none

    named : (r s : Refusal) → RefusesAlone reads refuses r → RefusesAlone reads refuses s → r ≡ s
    named r s (WhileRead rest bad) (WhileRead rest2 bad2) = ap (λ (a : Refusal × List Kept). a.0) (h.named (r, rest) (s, rest2) bad bad2)
    named r s (WhileRead rest bad) (AtTrailing y left rest2 read trailing) = absurd (h.apart (y, left) (r, rest) read bad)
    named r s (AtTrailing x left rest read trailing) (WhileRead rest2 bad) = absurd (h.apart (x, left) (s, rest2) read bad)
    named r s (AtTrailing x left rest read trailing) (AtTrailing y left2 rest2 read2 trailing2) =
        let both : left ≡ left2 = ap (λ (a : X × List Kept). a.1) (h.one (x, left) (y, left2) read read2) in
        let same : trailing.first ∷ rest ≡ trailing2.first ∷ rest2 = sym trailing.split ∙ both ∙ trailing2.split in
        trailing.named ∙ ap (λ (k : Kept). Trailing k.at) (first-same trailing.first trailing2.first rest rest2 same) ∙ sym trailing2.named
