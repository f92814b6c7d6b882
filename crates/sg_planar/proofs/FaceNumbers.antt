-- Numbers of the faces: the faces of an instance can be numbered from 0 in the order of their least darts.
use Rattle.std.proofs.Common.{inl, inr, ◌≡◌, ◌⊎◌, ◌∙◌, sym, ap, refl, ℕ, zero, suc, ◌+◌, ◌<◌, ◌≤◌, Bool, true, false, cond, leb, arith, get_or}
use Rattle.std.specs.List.{list_all, range_with_len}
use Rattle.std.proofs.lemmas.Bool.{cases_Bool, cases_lt, le-leb, true≢false}
use Rattle.sg_base.proofs.DealtSums.{sum_by_range}
use Rattle.sg_base.proofs.Ranks.{rank, at_rank, rank_less}
use Rattle.sg_model.specs.Ising.{Ising}
use Rattle.sg_model.specs.Rotation.{dart_count}
use Rattle.sg_model.specs.WellFormed.{IsInstance}
use Rattle.sg_faces.specs.Faces.{phi, steps, SameFace, is_least, faces_before, Labelling, IsFaceLabels}
use Rattle.sg_faces.proofs.FaceOrbits.{face_steps_below, face_symmetric, face_transitive, least_of_face}
use Rattle.sg_faces.proofs.PhiPermutes.{phi_below}

-- a number below F for each dart, the same along a face, and each of them used
pub record AreFaceNumbers (inst : Ising) (face : ℕ → ℕ) (F : ℕ) : Type 0 where
  pub below : (d : ℕ) → d < dart_count inst → face d < F
  pub along : (d : ℕ) → d < dart_count inst → face (phi inst d) ≡ face d
  pub used : (f : ℕ) → f < F → (d : ℕ) × (d < dart_count inst) × (face d ≡ f)

-- where not all of the first n steps pass, one does not
some_fails : (p : ℕ → Bool) (a n : ℕ) → list_all p (range_with_len a n) ≡ false → (j : ℕ) × (p j ≡ false)
some_fails p a zero h = absurd (true≢false h)
some_fails p a (suc n) h = grind (arith, some_fails p (a + 1) n)

module _ (inst : Ising) (good : IsInstance inst) where
  -- the least dart of the face of d
  pub record Least (d : ℕ) : Type 0 where
    pub dart : ℕ
    pub below : dart < dart_count inst
    pub same : SameFace inst d dart
    pub least : is_least inst dart ≡ true

  find_least : (fuel d : ℕ) → d < dart_count inst → d ≤ fuel → Least d
  find_least zero d l b = record { dart = d; below = l; same = (0, refl); least = (least_of_face inst good d l).1 (λ e s. omega arith) }
  find_least (suc fuel) d l b = elim (cases_Bool (is_least inst d)) [
    | inl h ↦ record { dart = d; below = l; same = (0, refl); least = h }
    | inr h ↦ further (some_fails (λ j. leb d (steps inst j d)) 0 (dart_count inst) h) (λ e le be. find_least fuel e le be)
  ]
    where
      further : ((j : ℕ) × (leb d (steps inst j d) ≡ false)) → ((e : ℕ) → e < dart_count inst → e ≤ fuel → Least e) → Least d
      further (j, f) again =
          let low : steps inst j d < d = elim (cases_lt (steps inst j d) d) [
            | inl less ↦ less
            | inr more ↦ absurd (true≢false (sym (le-leb d (steps inst j d) more) ∙ f))
          ] in
          let r : Least (steps inst j d) = again (steps inst j d) (face_steps_below inst good j d l) (omega arith) in
          record { dart = r.dart; below = r.below; same = face_transitive inst d (steps inst j d) r.dart (j, refl) r.same; least = r.least }

  least_dart : (d : ℕ) → d < dart_count inst → Least d
  least_dart d l = find_least d d l (omega arith)

  -- a face has one least dart
  one_least : (d e a b : ℕ) → d < dart_count inst → e < dart_count inst → SameFace inst d e → is_least inst a ≡ true →
      is_least inst b ≡ true → a < dart_count inst → b < dart_count inst → SameFace inst d a → SameFace inst e b → a ≡ b
  one_least d e a b ld le de ha hb la lb da eb =
      let ab : SameFace inst a b = face_transitive inst a d b (face_symmetric inst good d a ld da) (face_transitive inst d e b de eb) in
      let first : a ≤ b = ((least_of_face inst good a la).0 ha) b ab in
      let second : b ≤ a = ((least_of_face inst good b lb).0 hb) a (face_symmetric inst good a b la ab) in
      omega arith

  number_of : (d : ℕ) → (d < dart_count inst) ⊎ (dart_count inst ≤ d) → ℕ
  number_of d (inl l) = rank (is_least inst) (least_dart d l).dart
  number_of d (inr past) = 0

  -- the number of the face of d: how many lesser darts are the least of their faces
  abbrev number : ℕ → ℕ
  number d = number_of d (cases_lt d (dart_count inst))

  -- it is the rank of the least dart of the face
  number_is : (d a : ℕ) → d < dart_count inst → a < dart_count inst → SameFace inst d a → is_least inst a ≡ true →
      number d ≡ rank (is_least inst) a
  unfolding number_of
  number_is d a ld la da ha = by_case (cases_lt d (dart_count inst))
    where
      by_case : (c : (d < dart_count inst) ⊎ (dart_count inst ≤ d)) → number_of d c ≡ rank (is_least inst) a
      by_case (inl l) =
          let r : Least d = least_dart d l in
          ap (rank (is_least inst)) (one_least d d r.dart a ld ld (0, refl) r.least ha r.below la r.same da)
      by_case (inr past) = absurd (omega arith)

  -- the faces can be numbered in the order of their least darts
  pub face_numbers : (face : ℕ → ℕ) × AreFaceNumbers inst face (faces_before inst (dart_count inst))
  face_numbers = (
    number,
    record {
      below = λ d l. below d l (least_dart d l);
      along = λ d l. along d l (least_dart d l);
      used = λ f l. used f (at_rank (is_least inst) f (dart_count inst) (omega (arith, counted)));
    },
  )
    where
      counted : faces_before inst (dart_count inst) ≡ rank (is_least inst) (dart_count inst)
      counted = sum_by_range (λ k. cond (is_least inst k) 1 0) (dart_count inst)

      below : (d : ℕ) → d < dart_count inst → Least d → number d < faces_before inst (dart_count inst)
      below d l r =
          omega (arith, counted, number_is d r.dart l r.below r.same r.least, rank_less (is_least inst) r.dart (dart_count inst) r.below r.least)

      along : (d : ℕ) → d < dart_count inst → Least d → number (phi inst d) ≡ number d
      along d l r =
          number_is (phi inst d) r.dart (phi_below inst good d l) r.below
          (face_transitive inst (phi inst d) d r.dart (face_symmetric inst good d (phi inst d) l (1, refl)) r.same) r.least
          ∙ sym (number_is d r.dart l r.below r.same r.least)

      used : (f : ℕ) → ((r : ℕ) × (r < dart_count inst) × (is_least inst r ≡ true) × (rank (is_least inst) r ≡ f)) →
          (d : ℕ) × (d < dart_count inst) × (number d ≡ f)
      used f (r, b, h, e) = (r, b, number_is r r b b (0, refl) h ∙ e)

  -- labels of the faces are such numbers
  pub labels_number : (faces : Labelling) → IsFaceLabels inst faces →
      AreFaceNumbers inst (λ d. get_or faces.labels d 0) (faces_before inst (dart_count inst))
  labels_number faces labels = record {
    below = labels.below;
    along = λ d l. sym ((labels.same d (phi inst d) l (phi_below inst good d l)).1 (1, refl));
    used = labels.used;
  }
