-- The texts of what is drawn from a law of disorder: an instance, and the summary of a sample.
use Rattle.std.specs.Prelude.{ℕ, ℤ, pos, List, [], ◌∷◌, ◌++◌, codes}
use Rattle.std.specs.Fmt.{signed_decimal}
use Rattle.sg_lattice.specs.declared.kind.Kind.{Kind}
use Rattle.sg_lattice.specs.declared.kind.Kind.TheVariants.{Square, Triangular, Hexagonal, Cylinder}
use Rattle.sg_report.specs.Line.{line}

-- the word of a kind of lattice
abbrev pub kind_word : Kind → List ℕ
kind_word Square = codes "square"
kind_word Triangular = codes "triangular"
kind_word Hexagonal = codes "hexagonal"
kind_word Cylinder = codes "cylinder"

-- one line with all couplings; none if there is no bond
abbrev pub couplings_line : List ℤ → List ℕ
couplings_line [] = []
couplings_line (first ∷ others) = line (signed_decimal first) others

-- a lattice with its couplings, as it is read
abbrev pub instance_text : Kind → ℕ → ℕ → List ℤ → List ℕ
instance_text kind rows cols couplings =
    line (kind_word kind) (pos rows ∷ pos cols ∷ []) ++ couplings_line couplings ++ codes "end\n"

-- the numbers of spins and of bonds, the sum of the couplings' sizes, the least energy, and the least weight of broken
-- bonds
abbrev pub sample_text : ℕ → ℕ → ℤ → ℤ → ℤ → List ℕ
sample_text spins bonds total energy broken =
    line (codes "spins") (pos spins ∷ []) ++ line (codes "bonds") (pos bonds ∷ [])
    ++ line (codes "sum") (total ∷ []) ++ line (codes "energy") (energy ∷ [])
    ++ line (codes "broken") (broken ∷ []) ++ codes "end\n"
