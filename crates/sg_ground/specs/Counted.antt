-- The steps that a ground state takes.
use Rattle.std.specs.Prelude.{ℕ, ◌+◌, ◌≤◌, ◌⊎◌, List, length, sum_by}
use Rattle.sg_model.specs.Connected.{IsConnected}
use Rattle.sg_planar.specs.Fit.{Embedding}
use Rattle.sg_planar.specs.Parts.{AreParts}
use Rattle.sg_planar.specs.declared.components.Part.{Part}
use Rattle.sg_dual.specs.Dual.{dual_web, frustrated_faces}
use Rattle.sg_regions.specs.Places.{place_count}
use Rattle.sg_tjoin.specs.Counted.{region_limit, step_limit}

-- how many faces are frustrated
abbrev pub frustrated_count : Embedding → ℕ
frustrated_count p = length (frustrated_faces p.instance p.faces)

-- the faces and the two sides of each bond, counted together
abbrev pub dual_places : Embedding → ℕ
dual_places p = place_count (dual_web p.instance p.faces)

-- how many steps a component takes at most: those of a minimum T-join of its frustrated faces
abbrev pub join_steps : Embedding → ℕ
join_steps p = step_limit (frustrated_count p) (dual_places p)

-- all components of these together
abbrev pub all_steps : List Part → ℕ
all_steps parts = sum_by (λ part. join_steps part.planar) parts

-- steps are added, so many more than those of the whole instance, if it is connected, and else than those of its
-- components
abbrev pub AddsSteps : ℕ → Embedding → ℕ → ℕ → Type 0
AddsSteps more p old new = (IsConnected p.instance × (new ≤ old + join_steps p + more))
    ⊎ ((parts : List Part) × AreParts p.instance parts × (new ≤ old + all_steps parts + more))

-- those of a nest over all components, in runs of growing regions on the whole dual
abbrev pub nest_steps : Embedding → ℕ
nest_steps p = region_limit (frustrated_count p) (dual_places p)
