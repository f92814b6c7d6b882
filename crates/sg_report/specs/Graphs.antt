-- The texts of what is found in a weighted graph: a T-join of terminals, and a closed walk over every edge, each with
-- the cuts that prove it.
use Rattle.std.specs.Prelude.{ℕ, ℤ, pos, List, [], ◌∷◌, ◌++◌, map, codes}
use Rattle.std.specs.List.{flat_map}
use Rattle.sg_check.specs.declared.packing.Loop.{Loop}
use Rattle.sg_report.specs.Line.{line}

-- a cut: its weight, and its edges where a loop has its bonds
abbrev pub cut_line : Loop → List ℕ
cut_line cut = line (codes "cut") (cut.y ∷ map pos cut.bonds)

-- the weight of a T-join, its edges, and cuts
abbrev pub tjoin_text : ℤ → List ℕ → List Loop → List ℕ
tjoin_text weight edges cuts =
    line (codes "weight") (weight ∷ []) ++ line (codes "edges") (map pos edges)
    ++ flat_map cut_line cuts ++ codes "end\n"

-- a step of a walk: its edge, and the node that it leads to
abbrev pub step_line : ℕ × ℕ → List ℕ
step_line step = line (codes "step") (pos step.0 ∷ pos step.1 ∷ [])

-- the weight of a closed walk, its steps, and cuts
abbrev pub postman_text : ℤ → List (ℕ × ℕ) → List Loop → List ℕ
postman_text weight steps cuts =
    line (codes "weight") (weight ∷ []) ++ flat_map step_line steps ++ flat_map cut_line cuts ++ codes "end\n"
