-- The texts of turning couplings and of a largest cut.
use Rattle.std.specs.Prelude.{ℕ, ℤ, pos, int_lt, List, [], ◌∷◌, ◌++◌, codes, if◌then◌else◌}
use Rattle.std.specs.List.{flat_map, enumerate_from}
use Rattle.sg_check.specs.declared.packing.Loop.{Loop}
use Rattle.sg_report.specs.Line.{entries, line}
use Rattle.sg_report.specs.Text.{listed_int, loop_line}

-- where a coupling lies: above its turning coupling, below it or at it
abbrev pub place_end : ℤ → ℤ → List ℕ
place_end coupling turn =
    if int_lt turn coupling
    then codes ",above\n"
    else (if int_lt coupling turn then codes ",below\n" else codes ",at\n")

-- a bond with its turning coupling
abbrev pub turn_line : ℕ → ℤ → ℤ → List ℕ
turn_line bond coupling turn = entries (codes "turn") (pos bond ∷ turn ∷ []) ++ place_end coupling turn

-- the turning couplings of all bonds
abbrev pub ranges_text : List ℤ → List ℤ → List ℕ
ranges_text couplings turns =
    flat_map (λ p. turn_line p.0 (listed_int couplings p.0) p.1) (enumerate_from 0 turns) ++ codes "end\n"

-- the weight of a cut, its two sides as spins, and the loops that prove it
abbrev pub maxcut_text : ℤ → List ℤ → List Loop → List ℕ
maxcut_text weight spins loops =
    line (codes "cut") (weight ∷ []) ++ line (codes "spins") spins ++ flat_map loop_line loops ++ codes "end\n"
