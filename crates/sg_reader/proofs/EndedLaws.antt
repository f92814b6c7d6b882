-- Records up to an `end`, over any table of tests.
use Rattle.std.proofs.Common.{◌≡◌, ℕ, zero, suc, ◌<◌, true, false, List, [], ◌∷◌, ◌++◌, length, take, None, refl, sym, ap, subst, ◌∙◌, arith, inl, inr, append_assoc, append-nil}
use Rattle.std.proofs.lemmas.Bool.{cases_eq}
use Rattle.std.proofs.lemmas.List.{get_or_append_left, get_or_at, length_push, take-append-le, take_at}
use Rattle.std.proofs.lemmas.List.Elements.{All-append, All-cons, All-nil}
use Rattle.sg_model.specs.declared.refusal.Fault.{Fault}
use Rattle.sg_model.specs.declared.refusal.Fault.TheVariants.{Refused, NoMemory}
use Rattle.sg_model.specs.declared.refusal.Refusal.{Refusal}
use Rattle.sg_model.specs.declared.refusal.Refusal.TheVariants.{Unended}
use Rattle.sg_model.specs.Faults.{OrNoMemory}
use Rattle.sg_draft.specs.Tests.{Refuses}
use Rattle.sg_reader.specs.Kept.{Kept}
use Rattle.sg_reader.specs.Body.{says_end}
use Rattle.sg_reader.specs.Ended.{AtRecord, IsBody, RefusesRecords, StatesToEnd, TestTable, WithoutEnd, record_at, Fails, HoldsToEnd, RefusesNext, TakesNext}
use Rattle.sg_reader.proofs.RestLaws.{rest-behind}

-- no record fails a test where there is none
pub IsBody-none : (fault : TestTable) → IsBody fault []
IsBody-none fault = record { goes_on = All-nil (λ (r : Kept). says_end r ≡ false); passes = λ k inside. absurd (omega arith) }

-- one record more that is no `end` and passes its test
pub IsBody-more : (fault : TestTable) (body : List Kept) (r : Kept) → IsBody fault body → says_end r ≡ false → fault body r ≡ None →
    IsBody fault (body ++ r ∷ [])
IsBody-more fault body r h other good = record {
  goes_on = All-append (λ (q : Kept). says_end q ≡ false) body (r ∷ []) h.goes_on
      (All-cons (λ (q : Kept). says_end q ≡ false) r [] other (All-nil (λ (q : Kept). says_end q ≡ false)));
  passes = λ k inside. at k inside;
}
  where
    at : (k : ℕ) → k < length (body ++ r ∷ []) → fault (take k (body ++ r ∷ [])) (record_at (body ++ r ∷ []) k) ≡ None
    at k inside =
        elim (cases_eq k (length body)) [
          | inl e ↦
              let front : take k (body ++ r ∷ []) ≡ body = take_at body (r ∷ []) k (sym e) in
              let here : record_at (body ++ r ∷ []) k ≡ r = get_or_at body r [] (record { at = 0; fields = [] }) k (sym e) in
              rw (front, here) good
          | inr other ↦
              let below : k < length body = omega (arith, length_push body r) in
              let front : take k (body ++ r ∷ []) ≡ take k body = take-append-le k body (r ∷ []) (omega arith) in
              let here : record_at (body ++ r ∷ []) k ≡ record_at body k = get_or_append_left body (r ∷ []) (record { at = 0; fields = [] }) k below in
              rw (front, here) (h.passes k below)
        ]

-- one record more in front
IsBody-cons : (fault : TestTable) (q : Kept) (body : List Kept) → says_end q ≡ false → fault [] q ≡ None
    → IsBody (λ front. fault (q ∷ front)) body → IsBody fault (q ∷ body)
IsBody-cons fault q body other good h = record { goes_on = All-cons (λ (r : Kept). says_end r ≡ false) q body other h.goes_on; passes = at }
  where
    at : (k : ℕ) → k < length (q ∷ body) → fault (take k (q ∷ body)) (record_at (q ∷ body) k) ≡ None
    at zero inside = good
    at (suc k) inside = h.passes k (omega arith)

-- a record in front that passes, and what those behind it state
pub states-cons : {X : Type 0} (fault : TestTable) (stated : List Kept → X) (records more : List Kept) (q : Kept) (x : X) (rest : List Kept)
    → records ≡ q ∷ more → says_end q ≡ false → fault [] q ≡ None
    → StatesToEnd (λ front. fault (q ∷ front)) (λ front. stated (q ∷ front)) more x rest → StatesToEnd fault stated records x rest
states-cons fault stated records more q x rest split other good st = record {
  body = q ∷ st.body;
  last = st.last;
  ended = record {
    split = split ∙ ap (λ (l : List Kept). q ∷ l) st.ended.split;
    is_body = IsBody-cons fault q st.body other good st.ended.is_body;
    ends = st.ended.ends;
  };
  passes = st.passes;
  value = st.value;
}

-- a record in front that passes, and records that are refused behind it
pub refuses-cons : (fault : TestTable) (records more : List Kept) (q : Kept) (x : Refusal) (rest : List Kept)
    → records ≡ q ∷ more → says_end q ≡ false → fault [] q ≡ None
    → RefusesRecords (λ front. fault (q ∷ front)) more x rest → RefusesRecords fault records x rest
refuses-cons fault records more q x rest split other good (AtRecord body r divided is_body bad) =
    AtRecord (q ∷ body) r (split ∙ ap (λ (l : List Kept). q ∷ l) divided) (IsBody-cons fault q body other good is_body) bad
refuses-cons fault records more q x rest split other good (WithoutEnd is_body unended none) =
    WithoutEnd (subst (λ (l : List Kept). IsBody fault l) (sym split) (IsBody-cons fault q more other good is_body)) unended none

-- a record fails a test, or an allocation for it fails
pub record-fault : (fault : TestTable) (all body : List Kept) (r : Kept) (rest : List Kept) (e : Fault) → all ≡ body ++ r ∷ rest → IsBody fault body
    → OrNoMemory (Refuses (fault body r)) e → Fails (RefusesRecords fault all) all rest e
record-fault fault all body r rest (Refused x) split is_body bad = AtRecord body r split is_body bad
record-fault fault all body r rest NoMemory split is_body bad = rest-behind all body r rest split

-- a first record fails its test, or an allocation for it fails
pub first-fault : (fault : TestTable) (all : List Kept) (r : Kept) (rest : List Kept) (e : Fault) → all ≡ r ∷ rest
    → OrNoMemory (Refuses (fault [] r)) e → Fails (RefusesRecords fault all) all rest e
first-fault fault all r rest e split bad = record-fault fault all [] r rest e split (IsBody-none fault) bad

-- there is no record
pub without-first : (fault : TestTable) (all rest : List Kept) → all ≡ [] → rest ≡ [] → RefusesRecords fault all Unended rest
without-first fault all rest none nothing = WithoutEnd (subst (λ (l : List Kept). IsBody fault l) (sym none) (IsBody-none fault)) refl nothing

-- the records so far were taken, and the others are left
pub record TakenSoFar {S : Type 0} (tests : S → TestTable) (holds : S → List Kept → S → Type 0) (start : S) (all left : List Kept)
    (now : S) : Type 0 where
  pub body : List Kept
  pub split : all ≡ body ++ left
  pub is_body : IsBody (tests start) body
  pub held : holds start body now

-- none was taken yet
pub taken-none : {S : Type 0} (tests : S → TestTable) (holds : S → List Kept → S → Type 0) (start : S) (all : List Kept) → holds start [] start
    → TakenSoFar tests holds start all all start
taken-none tests holds start all held = record { body = []; split = refl; is_body = IsBody-none (tests start); held = held }

module _ {S : Type 0} (tests : S → TestTable) (holds : S → List Kept → S → Type 0) (start : S) (all left : List Kept) (now : S)
    (sf : TakenSoFar tests holds start all left now) where
  divided : (r : Kept) (rest : List Kept) → left ≡ r ∷ rest → all ≡ sf.body ++ r ∷ rest
  divided r rest next = sf.split ∙ ap (λ (l : List Kept). sf.body ++ l) next

  -- one more is taken
  pub taken-more : (r : Kept) (rest : List Kept) (new : S) → left ≡ r ∷ rest → says_end r ≡ false → TakesNext tests holds now r new
      → TakenSoFar tests holds start all rest new
  taken-more r rest new next other takes = record {
    body = sf.body ++ r ∷ [];
    split = divided r rest next ∙ sym (append_assoc sf.body (r ∷ []) rest);
    is_body = IsBody-more (tests start) sf.body r sf.is_body other (takes.passes start sf.body sf.held);
    held = takes.goes_on start sf.body sf.held;
  }

  -- one more is refused
  pub taken-fault : (r : Kept) (rest : List Kept) (e : Fault) → left ≡ r ∷ rest → RefusesNext tests holds now r e
      → Fails (RefusesRecords (tests start) all) all rest e
  taken-fault r rest e next bad = record-fault (tests start) all sf.body r rest e (divided r rest next) sf.is_body (bad.refused start sf.body sf.held)

  -- the `end` comes
  pub taken-end : (r : Kept) (rest : List Kept) → left ≡ r ∷ rest → says_end r ≡ true → HoldsToEnd tests holds start all now r rest
  taken-end r rest next end = record { body = sf.body; ended = record { split = divided r rest next; is_body = sf.is_body; ends = end }; held = sf.held }

  -- none is left
  pub taken-without : (rest : List Kept) → left ≡ [] → rest ≡ [] → RefusesRecords (tests start) all Unended rest
  taken-without rest none nothing =
      let same : all ≡ sf.body = sf.split ∙ ap (λ (l : List Kept). sf.body ++ l) none ∙ append-nil sf.body in
      WithoutEnd (subst (λ (l : List Kept). IsBody (tests start) l) (sym same) sf.is_body) refl nothing

-- at the `end` a test fails, or an allocation for it fails
pub end-fault : {S : Type 0} (tests : S → TestTable) (holds : S → List Kept → S → Type 0) (start : S)
    (all : List Kept) (now : S) (last : Kept) (rest : List Kept) (h : HoldsToEnd tests holds start all now last rest) (e : Fault)
    → OrNoMemory (Refuses (tests start h.body last)) e → Fails (RefusesRecords (tests start) all) all rest e
end-fault tests holds start all now last rest h e bad = record-fault (tests start) all h.body last rest e h.ended.split h.ended.is_body bad
