-- The text of a report, byte for byte: one line, a JSON object without blanks, its members in the order of their names.
use Rattle.std.specs.Prelude.{ℕ, ℤ, List, [], ◌∷◌, ◌++◌, codes, decimal, Option, Some, None}
use Rattle.std.specs.Fmt.{signed_decimal}
use Rattle.sg_check.specs.declared.packing.Loop.{Loop}
use Rattle.sg_report.specs.Text.{listed_int}

-- the texts of these items, each after a comma
abbrev pub comma_items : {X : Type 0} → (X → List ℕ) → List X → List ℕ
comma_items text [] = []
comma_items text (x ∷ xs) = codes "," ++ text x ++ comma_items text xs

-- the text of a list: its items between brackets, with commas between them
abbrev pub list_text : {X : Type 0} → (X → List ℕ) → List X → List ℕ
list_text text [] = codes "[]"
list_text text (x ∷ xs) = codes "[" ++ text x ++ comma_items text xs ++ codes "]"

-- a loop with its weight
abbrev pub loop_text : Loop → List ℕ
loop_text l = codes "{\"bonds\":" ++ list_text decimal l.bonds ++ codes ",\"y\":" ++ signed_decimal l.y ++ codes "}"

-- the energies of a domain wall, which are given in the order periodic, antiperiodic, difference; null if there is
-- no seam
abbrev pub wall_object : Option (List ℤ) → List ℕ
wall_object None = codes "null"
wall_object (Some w) =
    codes "{\"antiperiodic\":" ++ signed_decimal (listed_int w 1)
    ++ codes ",\"difference\":" ++ signed_decimal (listed_int w 2)
    ++ codes ",\"periodic\":" ++ signed_decimal (listed_int w 0) ++ codes "}"

-- the object
abbrev pub report_object : ℕ → ℤ → ℤ → List ℤ → List Loop → List ℤ → List ℕ → Option (List ℤ) → List ℕ
report_object bonds total energy spins loops costs clusters wall =
    codes "{\"bonds\":" ++ decimal bonds ++ codes ",\"clusters\":" ++ list_text decimal clusters
    ++ codes ",\"costs\":" ++ list_text signed_decimal costs ++ codes ",\"energy\":" ++ signed_decimal energy
    ++ codes ",\"loops\":" ++ list_text loop_text loops ++ codes ",\"spins\":" ++ list_text signed_decimal spins
    ++ codes ",\"sum\":" ++ signed_decimal total ++ codes ",\"wall\":" ++ wall_object wall ++ codes "}"

-- the text of a report: the object and a line feed
abbrev pub report_text : ℕ → ℤ → ℤ → List ℤ → List Loop → List ℤ → List ℕ → Option (List ℤ) → List ℕ
report_text bonds total energy spins loops costs clusters wall =
    report_object bonds total energy spins loops costs clusters wall ++ codes "\n"
