-- Records up to an `end`: each is tested from the records before it, and those after the `end` are left; what a reader
-- leaves, also if it fails, and when it leaves nothing.
use Rattle.std.specs.Prelude.{◌≡◌, ℕ, ◌<◌, false, true, List, [], ◌∷◌, ◌++◌, length, take, All, slice_index_or, Option, Some, None}
use Rattle.sg_model.specs.declared.refusal.Fault.{Fault}
use Rattle.sg_model.specs.declared.refusal.Fault.TheVariants.{Refused, NoMemory}
use Rattle.sg_model.specs.declared.refusal.Refusal.{Refusal}
use Rattle.sg_model.specs.declared.refusal.Refusal.TheVariants.{Trailing, Unended}
use Rattle.sg_model.specs.Faults.{OrNoMemory}
use Rattle.sg_draft.specs.Tests.{Refuses}
use Rattle.sg_reader.specs.Kept.{Kept}
use Rattle.sg_reader.specs.Body.{says_end}

-- a table of the tests of each record after others
abbrev pub TestTable : Type 0
TestTable = List Kept → Kept → Option Refusal

-- record k, and an empty one past the last
abbrev pub record_at : List Kept → ℕ → Kept
record_at records k = slice_index_or records k (record { at = 0; fields = [] })

-- the records before an `end`: none of them is one, and none fails a test
pub record IsBody (fault : TestTable) (body : List Kept) : Type 0 where
  pub goes_on : All (λ r. says_end r ≡ false) body
  pub passes : (k : ℕ) → k < length body → fault (take k body) (record_at body k) ≡ None

-- `last` is the first `end`: the body comes before it, and `rest` after it
pub record IsEnded (fault : TestTable) (records body : List Kept) (last : Kept) (rest : List Kept) : Type 0 where
  pub split : records ≡ body ++ last ∷ rest
  pub is_body : IsBody fault body
  pub ends : says_end last ≡ true

-- the records up to the `end`, which passes its test too, state x, and `rest` is left
pub record StatesToEnd {X : Type 0} (fault : TestTable) (stated : List Kept → X) (records : List Kept) (x : X)
    (rest : List Kept) : Type 0 where
  pub body : List Kept
  pub last : Kept
  pub ended : IsEnded fault records body last rest
  pub passes : fault body last ≡ None
  pub value : x ≡ stated body

-- the records are refused: at one that fails a test, and `rest` is left after it, or because they run out
pub data RefusesRecords (fault : TestTable) (records : List Kept) (refusal : Refusal) (rest : List Kept) : Type 0 where
  AtRecord : (body : List Kept) (r : Kept) → records ≡ body ++ r ∷ rest → IsBody fault body
      → fault body r ≡ Some refusal → RefusesRecords fault records refusal rest
  WithoutEnd : IsBody fault records → refusal ≡ Unended → rest ≡ []
      → RefusesRecords fault records refusal rest

-- some of the records were read, from the front, and `rest` is left
pub record IsRest (records rest : List Kept) : Type 0 where
  pub read : List Kept
  pub split : records ≡ read ++ rest

-- a reading failed: by a refusal, which says too what is left, or out of memory, and then some rest is
abbrev pub Fails : (Refusal → List Kept → Type 0) → List Kept → List Kept → Fault → Type 0
Fails refuses records rest (Refused refusal) = refuses refusal rest
Fails refuses records rest NoMemory = IsRest records rest

-- a value, or a refusal, with the records that are left
abbrev pub Leaving : {X : Type 0} → (X → List Kept → Type 0) → X × List Kept → Type 0
Leaving reads p = reads p.0 p.1

-- a record is left over where none may be
pub record IsTrailing (records : List Kept) (refusal : Refusal) (rest : List Kept) : Type 0 where
  pub first : Kept
  pub split : records ≡ first ∷ rest
  pub named : refusal ≡ Trailing first.at

-- records that are to give one thing are refused: while they are read, or at the first record that is left
pub data RefusesAlone {X : Type 0} (reads : X → List Kept → Type 0) (refuses : Refusal → List Kept → Type 0)
    (refusal : Refusal) : Type 0 where
  WhileRead : (rest : List Kept) → refuses refusal rest → RefusesAlone reads refuses refusal
  AtTrailing : (x : X) (left rest : List Kept) → reads x left → IsTrailing left refusal rest
      → RefusesAlone reads refuses refusal

-- How records are gathered: `tests` has for each value the tests of the records from it on, and `holds start body now`
-- says that from `start` on the records `body` gave `now`. So this is what some records gave
pub record HoldsSome {S : Type 0} (holds : S → List Kept → S → Type 0) (now : S) : Type 0 where
  pub start : S
  pub body : List Kept
  pub held : holds start body now

-- after records that gave `old` the next one passes its test, and with it they give `new`
pub record TakesNext {S : Type 0} (tests : S → TestTable) (holds : S → List Kept → S → Type 0)
    (old : S) (r : Kept) (new : S) : Type 0 where
  pub passes : (start : S) (body : List Kept) → holds start body old → tests start body r ≡ None
  pub goes_on : (start : S) (body : List Kept) → holds start body old → holds start (body ++ r ∷ []) new

-- after records that gave `old` the next one is refused
pub record RefusesNext {S : Type 0} (tests : S → TestTable) (holds : S → List Kept → S → Type 0)
    (old : S) (r : Kept) (fault : Fault) : Type 0 where
  pub refused : (start : S) (body : List Kept) → holds start body old
      → OrNoMemory (Refuses (tests start body r)) fault

-- the records up to an `end`, which is not tested yet, gave `now`
pub record HoldsToEnd {S : Type 0} (tests : S → TestTable) (holds : S → List Kept → S → Type 0) (start : S)
    (records : List Kept) (now : S) (last : Kept) (rest : List Kept) : Type 0 where
  pub body : List Kept
  pub ended : IsEnded (tests start) records body last rest
  pub held : holds start body now
