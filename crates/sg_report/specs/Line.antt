-- Lines: a word, numbers after it, each after a comma, and one line feed.
use Rattle.std.specs.Prelude.{ℕ, ℤ, List, [], ◌∷◌, ◌++◌}
use Rattle.std.specs.Fmt.{signed_decimal}
use Rattle.std.specs.List.{flat_map}

-- a comma and a number in decimal
abbrev pub listed_number : ℤ → List ℕ
listed_number number = 44 ∷ signed_decimal number

-- a word and its numbers
abbrev pub entries : List ℕ → List ℤ → List ℕ
entries word numbers = word ++ flat_map listed_number numbers

-- a whole line
abbrev pub line : List ℕ → List ℤ → List ℕ
line word numbers = entries word numbers ++ 10 ∷ []
