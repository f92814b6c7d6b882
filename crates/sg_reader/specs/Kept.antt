-- The records of a text that count, with their numbers.
use Rattle.std.specs.Prelude.{ℕ, ◌==◌, ◌&&◌, Bool, false, not, List, [], ◌∷◌, length, map, filter, slice_index_or}
use Rattle.std.specs.List.{enumerate_from}
use Rattle.std.specs.Str.{bytes_eq}
use Rattle.csv.specs.Reading.{default_config, records}
use Rattle.sg_reader.specs.Field.{fields_in, without_marks}

-- a record: its number among the records of the text, counted from 0, and its fields
pub record Kept : Type 0 where
  pub at : ℕ
  pub fields : List (List ℕ)

-- field i of a record, counted from 0, and the empty field past the last
abbrev pub field : Kept → ℕ → List ℕ
field r i = slice_index_or r.fields i []

-- whether the first field of a record is this word
abbrev pub begins : List ℕ → Kept → Bool
begins word r = bytes_eq (field r 0) word

-- the field begins with `#`
abbrev pub is_comment : List ℕ → Bool
is_comment [] = false
is_comment (byte ∷ rest) = byte == 35

-- a record is skipped if it has no field left, or if its first field begins with `#`
abbrev pub is_kept : Kept → Bool
is_kept r = not (length r.fields == 0) && not (is_comment (field r 0))

-- the records that `csv` gives, without a header row and of any lengths: fields between commas, in double quotes if
-- needed, and no record for an empty line. The bytes have no byte-order mark at the front
abbrev pub records_of : List ℕ → List (List (List ℕ))
records_of bytes = records default_config bytes

-- the records of a list, numbered from `at` on
abbrev pub numbered_from : ℕ → List (List (List ℕ)) → List Kept
numbered_from at raw = map (λ p. record { at = p.0; fields = fields_in p.1 }) (enumerate_from at raw)

-- the records of a text that are not skipped; those that are skipped keep their numbers
unfoldable pub kept_of : List ℕ → List Kept
kept_of bytes = filter is_kept (numbered_from 0 (records_of (without_marks bytes)))
