-- The texts of ensembles of domain walls.
use Rattle.std.specs.Prelude.{ℕ, ℤ, pos, List, [], ◌∷◌, ◌++◌, codes}
use Rattle.std.specs.List.{flat_map, enumerate_from}
use Rattle.sg_report.specs.Line.{line}
use Rattle.sg_report.specs.Text.{listed_int}

-- a sample with its wall energy
abbrev pub sample_line : ℕ → ℤ → List ℕ
sample_line sample wall = line (codes "wall") (pos sample ∷ wall ∷ [])

-- the wall energies of all samples, their sum, and the sum of their squares
abbrev pub ensemble_text : List ℤ → ℤ → ℤ → List ℕ
ensemble_text walls total squares =
    flat_map (λ p. sample_line p.0 p.1) (enumerate_from 0 walls)
    ++ line (codes "sum") (total ∷ []) ++ line (codes "squares") (squares ∷ []) ++ codes "end\n"

-- a width with the sum and the sum of squares of its wall energies
abbrev pub width_line : ℕ → ℤ → ℤ → List ℕ
width_line cols total squares = line (codes "width") (pos cols ∷ total ∷ squares ∷ [])

-- all widths
abbrev pub widths_text : List ℕ → List ℤ → List ℤ → List ℕ
widths_text cols totals squares =
    flat_map (λ p. width_line p.1 (listed_int totals p.0) (listed_int squares p.0)) (enumerate_from 0 cols)
    ++ codes "end\n"
