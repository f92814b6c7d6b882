-- What the marks on the darts and bonds say of the rotation and the seam.
use Rattle.std.proofs.Common.{◌≡◌, ◌⊎◌, inl, inr, ℕ, ◌<◌, ◌≤◌, Bool, true, cond, eqb, List, length, get_or, sym, ◌∙◌, subst, count_by, arith, ltb-true}
use Rattle.std.proofs.lemmas.List.Elements.{All-from_get_or}
use Rattle.sg_model.specs.Ising.{Ising, bond_count}
use Rattle.sg_model.specs.Rotation.{IsRotation, darts_of, is_dart_of}
use Rattle.sg_model.specs.Seam.{IsSeam}
use Rattle.sg_base.specs.Sets.{holds}
use Rattle.sg_model.specs.Misplaced.{IsInPlace, IsFirstMisplaced}
use Rattle.sg_model.specs.BadRotation.{IsBadRotation, IsLeastMissing}
use Rattle.sg_model.specs.BadSeam.{is_bond}
use Rattle.sg_model.specs.Marks.{AllMarked, IsLeastUnmarked, MarksSpins}
use Rattle.sg_model.proofs.EachOnce.{in_place-parts, count_in_place, each_once_in_place}

module _ (inst : Ising) (marked : List Bool) (stop : ℕ) (marks : MarksSpins inst marked stop) where
  -- where all darts of the spins before `spin` are marked, their lists are right
  pub each_once_before : (spin : ℕ) → spin ≤ stop → AllMarked inst marked spin → (i d : ℕ) → i < spin →
      count_by (λ x. eqb x d) (darts_of inst i) ≡ cond (is_dart_of inst i d) 1 0
  each_once_before spin l all i d b =
      each_once_in_place (is_dart_of inst i) (darts_of inst i) (marks.in_place i (omega arith))
      (λ (e : ℕ) (h : is_dart_of inst i e ≡ true). sym (marks.marks i (omega arith) e h) ∙ all i e b h) d

  -- the least unmarked dart of a spin is the least that its list lacks
  pub least_missing : (spin dart : ℕ) → IsLeastUnmarked inst marked stop spin dart → IsLeastMissing inst spin dart
  least_missing spin dart u = grind arith

  -- a misplaced dart, or one that is not marked, shows a bad rotation
  pub bad_rotation : (first spin dart : ℕ) → AllMarked inst marked spin →
      (stop < inst.n → IsFirstMisplaced (is_dart_of inst stop) (darts_of inst stop) first)
      → ((spin ≡ stop) × (dart ≡ first)) ⊎ IsLeastUnmarked inst marked stop spin dart → spin < inst.n → IsBadRotation inst spin dart
  bad_rotation first spin dart all misplaced (inl same) l = record {
    below = l;
    earlier = each_once_before spin (omega (arith, same.0)) all;
    shown = inl (subst (λ i. IsFirstMisplaced (is_dart_of inst i) (darts_of inst i) dart) (sym same.0)
        (subst (λ d. IsFirstMisplaced (is_dart_of inst stop) (darts_of inst stop) d) (sym same.1) (misplaced (omega (arith, same.0)))));
  }
  bad_rotation first spin dart all misplaced (inr least) l = record {
    below = l;
    earlier = each_once_before spin (omega (arith, least.before)) all;
    shown = inr (least_missing spin dart least);
  }

  -- where all darts are marked it is a rotation
  pub rotation_marked : (first spin dart : ℕ) → length inst.rotation ≡ inst.n → stop ≤ inst.n → AllMarked inst marked spin
      → ((spin ≡ stop) × (dart ≡ first)) ⊎ IsLeastUnmarked inst marked stop spin dart → inst.n ≤ spin → IsRotation inst
  rotation_marked first spin dart lists few all stopped past = grind (arith, each_once_before)

-- a seam without misplaced entries
pub seam_in_place : (inst : Ising) → IsInPlace (is_bond inst) inst.seam → IsSeam inst
seam_in_place inst good = record {
  below =
      All-from_get_or (λ k. k < bond_count inst) inst.seam 0
      (λ j b. ltb-true (get_or inst.seam j 0) (bond_count inst) (in_place-parts (is_bond inst) inst.seam good j b).0);
  distinct = λ k. once (holds inst.seam k) (count_by (λ y. eqb y k) inst.seam) (count_in_place (is_bond inst) inst.seam good k);
}
  where
    once : (h : Bool) (n : ℕ) → n ≡ cond h 1 0 → n ≤ 1
    once h n same = grind arith
