-- The faces of a rotation system (Heffter 1891, Edmonds 1960): the orbits of its darts, and labels of them.
use Rattle.std.specs.Prelude.{◌≡◌, ℕ, ◌+◌, ◌<◌, ◌==◌, ◌||◌, ◌↔◌, Bool, true, not, List, length, slice_index, count_by}
use Rattle.std.specs.List.{list_all, range_with_len}
use Rattle.sg_model.specs.Ising.{Ising}
use Rattle.sg_model.specs.Rotation.{dart_count, next, rev}
use Rattle.sg_faces.specs.Orbits.{after_steps, SameOrbit, is_least_of_orbit, orbits_before}

-- the dart after d along the face on its side: over the bond, and on to the next dart round the spin there
abbrev pub phi : Ising → ℕ → ℕ
phi inst d = next inst (rev d)

-- the dart that j steps of `phi` lead to
abbrev pub steps : Ising → ℕ → ℕ → ℕ
steps inst j d = after_steps (phi inst) j d

-- some number of steps leads from dart d to dart e
abbrev pub SameFace : Ising → ℕ → ℕ → Type 0
SameFace inst d e = SameOrbit (phi inst) d e

-- whether no dart of the face of d is less than d; a face has no more darts than there are
abbrev pub is_least : Ising → ℕ → Bool
is_least inst d = is_least_of_orbit (phi inst) (dart_count inst) d

-- how many darts before d are the least of their faces
abbrev pub faces_before : Ising → ℕ → ℕ
faces_before inst d = orbits_before (phi inst) (dart_count inst) d

-- no bond ends at spin i
abbrev pub is_bare : Ising → ℕ → Bool
is_bare inst i = list_all (λ b. not ((b.u == i) || (b.v == i))) inst.bonds

-- how many spins have no bond
abbrev pub bare_count : Ising → ℕ
bare_count inst = count_by (is_bare inst) (range_with_len 0 inst.n)

-- each orbit of darts has one least dart, and round a spin without a bond lies one face
abbrev pub face_count : Ising → ℕ
face_count inst = faces_before inst (dart_count inst) + bare_count inst

-- a label for each dart, and the number of labels
pub record Labelling : Type 0 where
  pub labels : List ℕ
  pub count : ℕ

-- the labels of the orbits, in the order of their least darts, and the number of faces
pub record IsFaceLabels (inst : Ising) (faces : Labelling) : Type 0 where
  pub lengths : length faces.labels ≡ dart_count inst
  pub below : (d : ℕ) → d < dart_count inst → slice_index faces.labels d < faces_before inst (dart_count inst)
  pub same : (d e : ℕ) → d < dart_count inst → e < dart_count inst →
      (slice_index faces.labels d ≡ slice_index faces.labels e) ↔ SameFace inst d e
  pub used : (f : ℕ) → f < faces_before inst (dart_count inst) →
      (d : ℕ) × (d < dart_count inst) × (slice_index faces.labels d ≡ f)
  pub order : (d : ℕ) → d < dart_count inst → is_least inst d ≡ true →
      slice_index faces.labels d ≡ faces_before inst d
  pub counts : faces.count ≡ face_count inst
