-- Faces as orbits: to lie on one face is an equivalence, and every face is a cycle of darts.
use Rattle.std.proofs.Common.{◌≡◌, ℕ, ◌<◌, ◌≤◌, ◌↔◌, true}
use Rattle.sg_model.specs.Ising.{Ising}
use Rattle.sg_model.specs.Rotation.{dart_count}
use Rattle.sg_model.specs.WellFormed.{IsInstance}
use Rattle.sg_faces.specs.Faces.{phi, steps, SameFace, is_least}
use Rattle.sg_faces.proofs.Cycles.{least_means, orbit_symmetric, orbit_transitive, steps_below}
use Rattle.sg_faces.proofs.PhiPermutes.{phi_one_to_one}

module _ (inst : Ising) (good : IsInstance inst) where
  -- steps along a face lead to darts
  pub face_steps_below : (j d : ℕ) → d < dart_count inst → steps inst j d < dart_count inst
  face_steps_below = steps_below (phi inst) (dart_count inst) (phi_one_to_one inst good)

  -- a dart lies on the face of each dart of its face
  pub face_symmetric : (d e : ℕ) → d < dart_count inst → SameFace inst d e → SameFace inst e d
  face_symmetric = orbit_symmetric (phi inst) (dart_count inst) (phi_one_to_one inst good)

  -- a dart that passes the bounded test is the least of its face
  pub least_of_face : (d : ℕ) → d < dart_count inst → (is_least inst d ≡ true) ↔ ((e : ℕ) → SameFace inst d e → d ≤ e)
  least_of_face = least_means (phi inst) (dart_count inst) (phi_one_to_one inst good)

-- two darts on one face with a third are on one face
pub face_transitive : (inst : Ising) (a b c : ℕ) → SameFace inst a b → SameFace inst b c → SameFace inst a c
face_transitive inst = orbit_transitive (phi inst)
