-- What crosses to a caller and back: lists that are copied as far as there is room, the line of a refusal, and lists of
-- lists as two lists, which may be wrong.
use Rattle.std.specs.Prelude.{◌≡◌, ℕ, ◌+◌, ◌-◌, ◌<◌, ◌≤◌, ◌==◌, ◌&&◌, not, nat_lt, min, if◌then◌else◌, Option, Some, List, ◌++◌, length, take, drop, map, flat_map, find, slice_index_or}
use Rattle.std.specs.Bool.{then_some}
use Rattle.std.specs.List.{range_with_len}
use Rattle.std.specs.Option.{option_or}
use Rattle.sg_model.specs.declared.refusal.Fault.{Fault}
use Rattle.sg_model.specs.declared.refusal.Fault.TheVariants.{Refused, NoMemory}
use Rattle.sg_report.specs.Text.{refusal_text}

-- the front of a list is in the place that the caller gave, as much of it as fits; what lies beyond is as before
pub record Fills {A : Type 0} (list before after : List A) (written : ℕ) : Type 0 where
  pub count : written ≡ min (length list) (length before)
  pub copied : after ≡ take written list ++ drop written before

-- the same, if the count is not told
abbrev pub Shows : {A : Type 0} → List A → List A → List A → Type 0
Shows list before after = Fills list before after (min (length list) (length before))

-- the caller has got the line of this fault, which is a refusal
abbrev pub IsToldFault : Fault → List ℕ → List ℕ → ℕ → Type 0
IsToldFault (Refused refusal) before after written = Fills (refusal_text refusal) before after written
IsToldFault NoMemory before after written = ⊥

-- the caller has got the line of a refusal that is owed
pub record TellsRefusal (Owed : Fault → Type 0) (before after : List ℕ) (written : ℕ) : Type 0 where
  pub fault : Fault
  pub owed : Owed fault
  pub line : IsToldFault fault before after written

-- how many entries the first items have together
abbrev pub entries_before : {A : Type 0} → (A → List ℕ) → List A → ℕ → ℕ
entries_before entries items count = length (flat_map entries (take count items))

-- items as two lists: the place of the first entry of each, with the number of all after; and all entries in turn
pub record IsJoined {A : Type 0} (entries : A → List ℕ) (items : List A) (starts joined : List ℕ) : Type 0 where
  pub begun : starts ≡ map (entries_before entries items) (range_with_len 0 (length items + 1))
  pub bound : joined ≡ flat_map entries items

-- entry k of a list, and 0 past its end
abbrev pub entry : List ℕ → ℕ → ℕ
entry xs k = slice_index_or xs k 0

-- the entries of item k, from its start to the next one
abbrev pub entries_of : List ℕ → List ℕ → ℕ → List ℕ
entries_of starts joined k = take (entry starts (k + 1) - entry starts k) (drop (entry starts k) joined)

-- the starts divide so many entries among so many items: one for each item and one more, which rise from 0 to the
-- number of all entries
pub record DividesEntries (starts : List ℕ) (items entries : ℕ) : Type 0 where
  pub count : length starts ≡ items + 1
  pub first : entry starts 0 ≡ 0
  pub rises : (k : ℕ) → k < items → entry starts k ≤ entry starts (k + 1)
  pub last : entry starts items ≡ entries

-- the first start that is less than the one before it
abbrev pub first_fall : List ℕ → Option ℕ
first_fall starts = find (λ k. nat_lt (entry starts k) (entry starts (k - 1))) (range_with_len 1 (length starts - 1))

-- the start that is wrong: the first, if there is another number of them than one more than the items, or if it is not
-- 0; one that is less than the one in front of it; or the last, if it is not the number of the entries
abbrev pub wrong_start : List ℕ → ℕ → ℕ → Option ℕ
wrong_start starts items entries =
    if length starts == items + 1 && entry starts 0 == 0
    then option_or (first_fall starts) (then_some (not (entry starts items == entries)) items)
    else Some 0
