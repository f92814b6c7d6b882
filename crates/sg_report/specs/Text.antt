-- The text of each answer.
use Rattle.std.specs.Prelude.{ℕ, ℤ, pos, int_lt, slice_index_or, List, [], ◌∷◌, ◌++◌, map, codes, if◌then◌else◌}
use Rattle.std.specs.List.{flat_map, enumerate_from}
use Rattle.sg_model.specs.declared.refusal.Refusal.{Refusal}
use Rattle.sg_check.specs.declared.packing.Loop.{Loop}
use Rattle.sg_check.specs.declared.verdict.Verdict.{Verdict}
use Rattle.sg_report.specs.Line.{entries, line}
use Rattle.sg_report.specs.Refusals.{refusal_numbers}
use Rattle.sg_report.specs.Verdicts.{verdict_numbers, verdict_word}

-- the lines of an energy and of the spins that have it
abbrev pub state_lines : ℤ → List ℤ → List ℕ
state_lines energy spins = line (codes "energy") (energy ∷ []) ++ line (codes "spins") spins

-- an energy and the spins that have it
abbrev pub energy_text : ℤ → List ℤ → List ℕ
energy_text energy spins = state_lines energy spins ++ codes "end\n"

-- a loop: its weight, and its bonds
abbrev pub loop_line : Loop → List ℕ
loop_line l = line (codes "loop") (l.y ∷ map pos l.bonds)

-- an energy, the spins that have it, and the loops that prove it
abbrev pub ground_text : ℤ → List ℤ → List Loop → List ℕ
ground_text energy spins loops = state_lines energy spins ++ flat_map loop_line loops ++ codes "end\n"

-- number i of a list
abbrev pub listed_int : List ℤ → ℕ → ℤ
listed_int numbers i = slice_index_or numbers i (pos 0)

-- the least energy, the least one with the signs of the seam changed, and the second minus the first
abbrev pub wall_text : ℤ → ℤ → ℤ → List ℕ
wall_text periodic antiperiodic wall =
    line (codes "periodic") (periodic ∷ []) ++ line (codes "antiperiodic") (antiperiodic ∷ [])
    ++ line (codes "wall") (wall ∷ []) ++ codes "end\n"

-- a bond with its cost: rigid if flipping it has a positive cost
abbrev pub cost_line : ℕ → ℤ → List ℕ
cost_line bond cost = entries (codes "cost") (pos bond ∷ cost ∷ [])
    ++ (if int_lt (pos 0) cost then codes ",rigid\n" else codes ",loose\n")

-- the costs of all bonds
abbrev pub bonds_text : List ℤ → List ℕ
bonds_text costs = flat_map (λ p. cost_line p.0 p.1) (enumerate_from 0 costs) ++ codes "end\n"

-- a spin with its cluster
abbrev pub cluster_line : ℕ → ℕ → List ℕ
cluster_line spin cluster = line (codes "cluster") (pos spin ∷ pos cluster ∷ [])

-- the clusters of all spins
abbrev pub clusters_text : List ℕ → List ℕ
clusters_text clusters = flat_map (λ p. cluster_line p.0 p.1) (enumerate_from 0 clusters) ++ codes "end\n"

-- why an input is refused
abbrev pub refusal_text : Refusal → List ℕ
refusal_text refusal = line (codes "refused") (refusal_numbers refusal)

-- what became of a proof
abbrev pub verdict_text : Verdict → List ℕ
verdict_text verdict = line (verdict_word verdict) (verdict_numbers verdict)
