-- The fields of a record, as they are read: without the blanks at their ends, and without the empty ones at the end of
-- the record.
use Rattle.std.specs.Prelude.{ℕ, ◌-◌, ◌==◌, ◌||◌, Bool, List, [], ◌∷◌, length, take, drop, map, if◌then◌else◌}
use Rattle.std.specs.List.{prefix_len, suffix_len}
use Rattle.csv.specs.Reading.{is_bom}

-- a space or a tab
abbrev pub is_blank : ℕ → Bool
is_blank byte = (byte == 32) || (byte == 9)

-- the list without the longest front, or the longest end, that passes the test throughout
abbrev pub after_front : {X : Type 0} → (X → Bool) → List X → List X
after_front test xs = drop (prefix_len test xs) xs

-- a list without the items at its end that pass a test
abbrev pub before_end : {X : Type 0} → (X → Bool) → List X → List X
before_end test xs = take (length xs - suffix_len test xs) xs

-- the field without the blanks at both its ends
unfoldable pub trimmed : List ℕ → List ℕ
trimmed field = before_end is_blank (after_front is_blank field)

-- whether a field has no bytes
abbrev pub is_empty : List ℕ → Bool
is_empty field = length field == 0

-- the fields of a record: each trimmed, and then without the empty ones at the end
unfoldable pub fields_in : List (List ℕ) → List (List ℕ)
fields_in raw = before_end is_empty (map trimmed raw)

-- the text without the byte-order marks EF BB BF at its front, however many there are
unfoldable pub without_marks : List ℕ → List ℕ
without_marks [] = []
without_marks (a ∷ []) = a ∷ []
without_marks (a ∷ b ∷ []) = a ∷ b ∷ []
without_marks (a ∷ b ∷ c ∷ rest) = if is_bom a b c then without_marks rest else a ∷ b ∷ c ∷ rest
