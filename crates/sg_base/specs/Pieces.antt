-- Lists of lists that lie one after another in one flat list: the pieces that begin at given starts.
use Rattle.std.specs.Prelude.{ℕ, ◌+◌, ◌-◌, ◌≤◌, List, [], ◌++◌, length, take, drop, map, slice_index_or, slice_set}
use Rattle.std.specs.List.{range_with_len}

-- where piece i begins; past the last start, where the flat list ends
abbrev pub start_of : {A : Type 0} → List A → List ℕ → ℕ → ℕ
start_of items starts i = slice_index_or starts i (length items)

-- piece i, from its start up to that of the next
abbrev pub piece : {A : Type 0} → List A → List ℕ → ℕ → List A
piece items starts i =
    take (start_of items starts (i + 1) - start_of items starts i) (drop (start_of items starts i) items)

-- all pieces, in order
abbrev pub pieces : {A : Type 0} → List A → List ℕ → List (List A)
pieces items starts = map (piece items starts) (range_with_len 0 (length starts))

-- no start is past the end, nor past a later one
pub record AreStarts {A : Type 0} (items : List A) (starts : List ℕ) : Type 0 where
  pub inside : (i : ℕ) → start_of items starts i ≤ length items
  pub rising : (i : ℕ) → start_of items starts i ≤ start_of items starts (i + 1)

-- the lists, with more at the end of the last of them
abbrev pub with_more : {A : Type 0} → List (List A) → List A → List (List A)
with_more lists more =
    slice_set lists (length lists - 1) (slice_index_or lists (length lists - 1) [] ++ more)
