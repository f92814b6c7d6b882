-- Whole numbers in the fields of a text, and the tests of those of a record: each gives its refusal if it fails.
use Rattle.std.specs.Prelude.{ℕ, ◌-◌, ◌^◌, ◌==◌, ◌&&◌, nat_lt, if◌then◌else◌, Bool, false, not, ℤ, pos, neg_ℤ, int_le, unsigned_abs, List, length, map, Option, Some, None, unwrap_or}
use Rattle.std.specs.List.{range_with_len}
use Rattle.std.specs.Str.{all_ascii_digits}
use Rattle.std.specs.Str.Parse.{digits_value, signed_digits_value, without_leading_sign}
use Rattle.sg_model.specs.declared.refusal.Refusal.{Refusal}
use Rattle.sg_model.specs.declared.refusal.Refusal.TheVariants.{BadNumber, BadShape, UnknownKind}
use Rattle.sg_draft.specs.Tests.{first_of, refuse_if}
use Rattle.sg_reader.specs.declared.range.Range.{Range}
use Rattle.sg_reader.specs.Kept.{Kept, begins, field}

-- the field is one decimal digit or more, after a `+`, a `-` or no sign
abbrev pub is_numeral : List ℕ → Bool
is_numeral field = nat_lt 0 (length (without_leading_sign field)) && all_ascii_digits (without_leading_sign field)

-- the size of the number that the digits of a field spell; leading zeros count for nothing
abbrev pub size_of : List ℕ → ℕ
size_of field = digits_value 10 (without_leading_sign field)

-- the number that a field spells, from -9223372036854775807 to 9223372036854775807; None if it spells none of these
unfoldable pub number_of : List ℕ → Option ℤ
number_of field =
    if is_numeral field && nat_lt (size_of field) (2 ^ 63) then Some (signed_digits_value 10 field) else None

-- each number that a field can spell, as a coupling may be
abbrev pub any_number : Range
any_number = record { low = neg_ℤ (pos (2 ^ 63 - 1)); high = pos (2 ^ 63 - 1) }

-- the numbers from `least` on
abbrev pub at_least : ℕ → Range
at_least least = record { low = pos least; high = pos (2 ^ 63 - 1) }

-- the numbers of n spins
abbrev pub spin_below : ℕ → Range
spin_below n = record { low = pos 0; high = pos (n - 1) }

-- the numbers from 0 to 4294967295, which number darts and bonds
abbrev pub any_index : Range
any_index = record { low = pos 0; high = pos (2 ^ 32 - 1) }

-- whether there is a number, and it is of the range
abbrev pub is_in : Range → Option ℤ → Bool
is_in range None = false
is_in range (Some number) = int_le range.low number && int_le number range.high

-- the number that field i spells, if it spells one
abbrev pub field_number : Kept → ℕ → Option ℤ
field_number r i = number_of (field r i)

-- the number in field i, and 0 if it is none
abbrev pub number_in : Kept → ℕ → ℤ
number_in r i = unwrap_or (field_number r i) (pos 0)

-- the size of the number in field i
abbrev pub size_in : Kept → ℕ → ℕ
size_in r i = unsigned_abs (number_in r i)

-- the test of the number in field i: it is of the range
unfoldable pub field_fault : Range → ℕ → Kept → Option Refusal
field_fault range i r = refuse_if (not (is_in range (field_number r i))) (BadNumber r.at i)

-- one test for each field from field `from` on: the first that fails counts
unfoldable pub fields_fault : (ℕ → Kept → Option Refusal) → ℕ → Kept → Option Refusal
fields_fault test from r = first_of (map (λ i. test i r) (range_with_len from (length r.fields - from)))

-- the test of the word that a record begins with
abbrev pub word_fault : List ℕ → Kept → Option Refusal
word_fault word r = refuse_if (not (begins word r)) (UnknownKind r.at)

-- the test of how many fields a record has
abbrev pub field_count_fault : ℕ → Kept → Option Refusal
field_count_fault fields r = refuse_if (not (length r.fields == fields)) (BadShape r.at)
