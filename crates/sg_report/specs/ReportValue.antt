-- A report as data.
use Rattle.std.specs.Prelude.{ℕ, ℤ, List, map, codes, Option, Some, None}
use Rattle.serde_json.specs.Data.{Data, null, number, array, object, member, no_members, unsigned}
use Rattle.serde_json.specs.Find.{of_integer}
use Rattle.serde_json.specs.View.{items_of}
use Rattle.sg_check.specs.declared.packing.Loop.{Loop}
use Rattle.sg_report.specs.Text.{listed_int}

-- a whole number as a JSON value
abbrev pub whole_value : ℤ → Data
whole_value z = number (of_integer z)

-- a number of a spin, a bond or a cluster as a JSON value
abbrev pub name_value : ℕ → Data
name_value n = number (unsigned n)

-- a list as a JSON array
abbrev pub list_value : {X : Type 0} → (X → Data) → List X → Data
list_value value xs = array (items_of (map value xs))

-- a loop as a JSON object: its bonds and its weight
abbrev pub loop_value : Loop → Data
loop_value l =
    object (member (codes "bonds") (list_value name_value l.bonds)
    (member (codes "y") (whole_value l.y) no_members))

-- the energies of a domain wall as a JSON object, and null if there is no seam
abbrev pub wall_value : Option (List ℤ) → Data
wall_value None = null
wall_value (Some w) =
    object (member (codes "antiperiodic") (whole_value (listed_int w 1))
    (member (codes "difference") (whole_value (listed_int w 2))
    (member (codes "periodic") (whole_value (listed_int w 0)) no_members)))

-- the report as a JSON object
abbrev pub report_value : ℕ → ℤ → ℤ → List ℤ → List Loop → List ℤ → List ℕ → Option (List ℤ) → Data
report_value bonds total energy spins loops costs clusters wall =
    object (member (codes "bonds") (name_value bonds) (member (codes "clusters") (list_value name_value clusters)
    (member (codes "costs") (list_value whole_value costs) (member (codes "energy") (whole_value energy)
    (member (codes "loops") (list_value loop_value loops) (member (codes "spins") (list_value whole_value spins)
    (member (codes "sum") (whole_value total) (member (codes "wall") (wall_value wall) no_members))))))))
