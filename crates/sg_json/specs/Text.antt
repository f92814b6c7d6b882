-- Which inputs are JSON, and how long they may be.
use Rattle.std.specs.Prelude.{ℕ, ◌==◌, ◌||◌, Bool, false, List, [], ◌∷◌}
use Rattle.sg_reader.specs.Field.{after_front, without_marks}

-- a space, a tab, a carriage return or a line feed
abbrev pub is_white : ℕ → Bool
is_white byte = (byte == 32) || (byte == 9) || (byte == 13) || (byte == 10)

-- the list begins with `{`
abbrev pub opens : List ℕ → Bool
opens [] = false
opens (byte ∷ rest) = byte == 123

-- the first byte that is no white space, after all byte-order marks, is `{`
abbrev pub is_object_text : List ℕ → Bool
is_object_text bytes = opens (after_front is_white (without_marks bytes))
