-- The sides of bonds that lie on a face.
use Rattle.std.specs.Prelude.{ℕ, ◌/◌, ◌==◌, ◌&&◌, Bool, slice_index, count_by}
use Rattle.std.specs.List.{range_with_len}
use Rattle.sg_model.specs.Ising.{Ising}
use Rattle.sg_model.specs.Rotation.{dart_count}
use Rattle.sg_faces.specs.Faces.{Labelling}

-- how many darts of face f belong to bonds of the set; a bond with the face on both its sides counts twice
abbrev pub sides_on : Ising → Labelling → ℕ → (ℕ → Bool) → ℕ
sides_on inst faces f bonds =
    count_by (λ d. bonds (d / 2) && (slice_index faces.labels d == f)) (range_with_len 0 (dart_count inst))
