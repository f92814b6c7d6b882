-- `phi` permutes the darts.
use Rattle.std.proofs.Common.{◌≡◌, ℕ, ◌<◌}
use Rattle.sg_model.specs.Ising.{Ising}
use Rattle.sg_model.specs.Rotation.{dart_count, rev}
use Rattle.sg_model.specs.WellFormed.{IsInstance}
use Rattle.sg_model.proofs.DartPairs.{rev_below, rev_apart}
use Rattle.sg_model.proofs.Rotations.{next_in_list, next_apart}
use Rattle.sg_faces.specs.Orbits.{IsOneToOne}
use Rattle.sg_faces.specs.Faces.{phi}

module _ (inst : Ising) (good : IsInstance inst) where
  -- `phi` leads from darts to darts
  pub phi_below : (d : ℕ) → d < dart_count inst → phi inst d < dart_count inst
  phi_below d l = (next_in_list inst good (rev d) (rev_below inst d l)).0

  -- it leads different darts to different ones
  pub phi_apart : (d e : ℕ) → d < dart_count inst → e < dart_count inst → phi inst d ≡ phi inst e → d ≡ e
  phi_apart d e ld le p = rev_apart d e (next_apart inst good (rev d) (rev e) (rev_below inst d ld) (rev_below inst e le) p)

  -- so it is one-to-one
  pub phi_one_to_one : IsOneToOne (phi inst) (dart_count inst)
  phi_one_to_one = record { below = phi_below; apart = phi_apart }
