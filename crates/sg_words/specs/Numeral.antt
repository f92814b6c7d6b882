-- Whole numbers in words.
use Rattle.std.specs.Prelude.{ℕ, ◌&&◌, nat_lt, nat_le, if◌then◌else◌, Bool, List, length, Option, Some, None}
use Rattle.std.specs.List.{list_all}
use Rattle.std.specs.Char.{is_ascii_digit}
use Rattle.std.specs.Str.Parse.{digits_value}

-- the word is one decimal digit or more, and nothing else
abbrev pub is_digits : List ℕ → Bool
is_digits word = nat_lt 0 (length word) && list_all is_ascii_digit word

-- the number that a word spells, if it is one from `least` to `most`; leading zeros count for nothing
abbrev pub word_number : ℕ → ℕ → List ℕ → Option ℕ
word_number least most word =
    if is_digits word && (nat_le least (digits_value 10 word) && nat_le (digits_value 10 word) most)
    then Some (digits_value 10 word) else None
