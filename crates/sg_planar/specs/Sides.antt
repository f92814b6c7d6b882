-- The sides of marked bonds on a face, up to an even number.
use Rattle.std.specs.Prelude.{ℕ, ◌/◌, ◌==◌, ◌&&◌, Bool, List, slice_index}
use Rattle.sg_base.specs.Sets.{is_marked}
use Rattle.sg_faces.specs.Faces.{Labelling}

-- whether dart d lies on face f and belongs to a marked bond
abbrev pub is_marked_side : Labelling → List Bool → ℕ → ℕ → Bool
is_marked_side faces marks f d = is_marked marks (d / 2) && (slice_index faces.labels d == f)
