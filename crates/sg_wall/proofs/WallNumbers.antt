-- The three numbers of a wall, from two least energies.
use Rattle.std.proofs.Common.{◌≡◌, ℕ, ◌≤◌, ◌*◌, ℤ, ◌-ℤ◌, [], sym, ◌∙◌, ap, subst, to_z, of_z, w64, pos, arith, FitsSigned, unsigned_abs}
use Rattle.std.proofs.lemmas.Int.{ints, to_z-of_z, fits_signed_from_abs}
use Rattle.sg_base.specs.Limits.{forced_limit}
use Rattle.sg_model.specs.Energy.{IsLeastEnergy, weight}
use Rattle.sg_model.specs.Changes.{with_seam_flipped}
use Rattle.sg_planar.specs.Fit.{Embedding, IsPlanar}
use Rattle.sg_planar.proofs.OtherCouplings.{weight_flipped}
use Rattle.sg_wall.specs.Wall.{IsWall}
use Rattle.sg_wall.proofs.EmptySeams.{no_wall}

module _
    (p q : Embedding) (e f : ℤ)
    (planar : IsPlanar q) (flipped : q ≡ record { instance = with_seam_flipped p.instance; faces = p.faces })
    (old : IsLeastEnergy p.instance e) (old_size : unsigned_abs e ≤ weight p.instance)
    (new : IsLeastEnergy q.instance f) (new_size : unsigned_abs f ≤ weight q.instance) where
  same_weight : weight q.instance ≡ weight p.instance
  same_weight = ap (λ (r : Embedding). weight r.instance) flipped ∙ weight_flipped p.instance

  first_kept : to_z w64 (of_z w64 e) ≡ e
  first_kept = to_z-of_z w64 e (fits_signed_from_abs w64 e (omega (arith, old_size, same_weight, planar.sum)))

  second_kept : to_z w64 (of_z w64 f) ≡ f
  second_kept = to_z-of_z w64 f (fits_signed_from_abs w64 f (omega (arith, new_size, planar.sum)))

  small : (x y : ℤ) (w : ℕ) → unsigned_abs x ≤ w → unsigned_abs y ≤ w → w ≤ forced_limit → unsigned_abs (y -ℤ x) ≤ 2 * forced_limit
  small x y w a b c = omega (arith, ints)

  difference_size : unsigned_abs (to_z w64 (of_z w64 f) -ℤ to_z w64 (of_z w64 e)) ≤ 2 * forced_limit
  difference_size = rw (first_kept, second_kept) (small e f (weight q.instance) (omega (arith, old_size, same_weight)) new_size planar.sum)

  -- the difference of two least energies fits 64 bits
  pub difference_fits : FitsSigned w64 (to_z w64 (of_z w64 f) -ℤ to_z w64 (of_z w64 e))
  difference_fits = fits_signed_from_abs w64 (to_z w64 (of_z w64 f) -ℤ to_z w64 (of_z w64 e)) (omega (arith, difference_size))

  third_kept : to_z w64 (of_z w64 (to_z w64 (of_z w64 f) -ℤ to_z w64 (of_z w64 e))) ≡ to_z w64 (of_z w64 f) -ℤ to_z w64 (of_z w64 e)
  third_kept = to_z-of_z w64 (to_z w64 (of_z w64 f) -ℤ to_z w64 (of_z w64 e)) difference_fits

  -- the three numbers are those of the wall
  pub is_wall : IsWall p.instance (to_z w64 (of_z w64 e)) (to_z w64 (of_z w64 f)) (to_z w64 (of_z w64 (to_z w64 (of_z w64 f) -ℤ to_z w64 (of_z w64 e))))
  is_wall = record {
    least = subst (IsLeastEnergy p.instance) (sym first_kept) old;
    least_flipped =
        subst (λ (r : Embedding). IsLeastEnergy r.instance (to_z w64 (of_z w64 f))) flipped
        (subst (IsLeastEnergy q.instance) (sym second_kept) new);
    gain = third_kept;
  }

  -- with an empty seam the difference in the code is 0
  pub no_gain : p.instance.seam ≡ [] → to_z w64 (of_z w64 (to_z w64 (of_z w64 f) -ℤ to_z w64 (of_z w64 e))) ≡ pos 0
  no_gain none = no_wall p.instance _ _ _ is_wall.least is_wall.least_flipped is_wall.gain none
