-- Other couplings on the same bonds leave the faces and Euler's number as they are.
use Rattle.std.proofs.Common.{ap₂, ◌≡◌, ℕ, ℤ, ◌+◌, ◌-◌, ◌*◌, ◌<◌, ◌≤◌, pos, List, sym, ◌∙◌, ap, arith, length, get_or, ◌-ℤ◌}
use Rattle.sg_model.specs.declared.bond.Bond.{Bond}
use Rattle.sg_model.specs.Ising.{Ising}
use Rattle.sg_model.specs.Rotation.{dart_count, darts_of, following, next, rev}
use Rattle.sg_model.specs.WellFormed.{IsInstance}
use Rattle.sg_model.specs.Changes.{HasSameEnds, with_bonds}
use Rattle.sg_model.proofs.LeastSpins.{one_list}
use Rattle.sg_model.proofs.SameEnds.{tail_same}
use Rattle.sg_model.proofs.SamePaths.{leasts_same}
use Rattle.sg_faces.specs.Orbits.{orbits_before}
use Rattle.sg_faces.specs.Faces.{phi, is_least, faces_before, face_count, Labelling, SameFace, IsFaceLabels}
use Rattle.sg_faces.specs.Euler.{euler, IsEuler}
use Rattle.sg_faces.proofs.BareSpins.{bare_same}
use Rattle.sg_faces.proofs.PhiPermutes.{phi_one_to_one}
use Rattle.sg_faces.proofs.Traced.{after_steps_same, orbits_before_same}

-- an instance has one Euler number
pub one_euler : (inst : Ising) (d e : ℤ) → IsEuler inst d → IsEuler inst e → d ≡ e
one_euler inst d e p q =
    p.value ∙ ap (λ (leasts : List ℕ). euler inst (length leasts)) (one_list inst p.leasts q.leasts p.components q.components) ∙ sym q.value

module _ (inst : Ising) (bonds : List Bond) (same : HasSameEnds inst bonds) where
  next_same : (d : ℕ) → next (with_bonds inst bonds) d ≡ next inst d
  unfolding next
  next_same d = ap (λ i. following (darts_of inst i) d) (tail_same inst bonds same d)

  -- other couplings leave `phi` as it is
  pub phi_same : (d : ℕ) → phi (with_bonds inst bonds) d ≡ phi inst d
  phi_same d = next_same (rev d)

  darts_same : dart_count (with_bonds inst bonds) ≡ dart_count inst
  darts_same = ap (λ m. 2 * m) same.count

  module _ (good : IsInstance inst) where
    least_same : (d : ℕ) → d < dart_count inst → is_least (with_bonds inst bonds) d ≡ is_least inst d
    least_same d l = grind (arith, phi_one_to_one, phi_same)

    before_same : (n : ℕ) → n ≤ dart_count inst → faces_before (with_bonds inst bonds) n ≡ faces_before inst n
    before_same n l =
        ap (λ k. orbits_before (phi (with_bonds inst bonds)) k n) darts_same
        ∙ orbits_before_same (phi (with_bonds inst bonds)) (phi inst) (dart_count inst) (phi_one_to_one inst good) (λ d _. phi_same d) n l

    orbits_same : faces_before (with_bonds inst bonds) (dart_count (with_bonds inst bonds)) ≡ faces_before inst (dart_count inst)
    orbits_same = ap (faces_before (with_bonds inst bonds)) darts_same ∙ before_same (dart_count inst) (omega arith)

    count_same : face_count (with_bonds inst bonds) ≡ face_count inst
    count_same = simp (orbits_same, bare_same)

    -- and the Euler number of a count of components
    pub euler_same : (components : ℕ) → euler (with_bonds inst bonds) components ≡ euler inst components
    euler_same components = ap₂ (λ f m. pos (inst.n + f) -ℤ pos (m + 2 * (components - 1))) count_same same.count

    -- and that of the instance
    pub is_euler_same : (e : ℤ) → IsEuler inst e → IsEuler (with_bonds inst bonds) e
    is_euler_same e h = record {
      leasts = h.leasts;
      components = leasts_same inst bonds same good h.leasts h.components;
      value = h.value ∙ sym (euler_same (length h.leasts));
    }

    -- and the labels of the faces
    pub faces_same : (faces : Labelling) → IsFaceLabels inst faces → IsFaceLabels (with_bonds inst bonds) faces
    faces_same faces h = record {
      lengths = h.lengths ∙ sym darts_same;
      below = λ d l. (let low : get_or faces.labels d 0 < faces_before inst (dart_count inst) = h.below d (omega (arith, darts_same)) in omega
          (arith, low, orbits_same));
      same = λ d e l m. (
        (λ s. there d e (omega (arith, darts_same)) ((h.same d e (omega (arith, darts_same)) (omega (arith, darts_same))).0 s)),
        (λ s. back d e (omega (arith, darts_same)) (omega (arith, darts_same)) s),
      );
      used = λ f l. (let u : (d : ℕ) × (d < dart_count inst) × (get_or faces.labels d 0 ≡ f) = h.used f (omega (arith, l, orbits_same)) in
          (u.0, omega (arith, u.1, darts_same), u.2));
      order = λ d l least. h.order d (omega (arith, darts_same)) (sym (least_same d (omega (arith, darts_same))) ∙ least)
          ∙ sym (before_same d (omega (arith, darts_same)));
      counts = h.counts ∙ sym count_same;
    }
      where
        there : (d e : ℕ) → d < dart_count inst → SameFace inst d e → SameFace (with_bonds inst bonds) d e
        there d e l (j, s) = (
          j,
          after_steps_same (phi (with_bonds inst bonds)) (phi inst) (dart_count inst) (phi_one_to_one inst good)
              (λ d _. phi_same d) j d l ∙ s,
        )

        back : (d e : ℕ) → d < dart_count inst → e < dart_count inst → SameFace (with_bonds inst bonds) d e →
            get_or faces.labels d 0 ≡ get_or faces.labels e 0
        back d e l m (j, s) = (h.same d e l m).1 (
          j,
          sym (after_steps_same (phi (with_bonds inst bonds)) (phi inst) (dart_count inst)
              (phi_one_to_one inst good) (λ d _. phi_same d) j d l) ∙ s,
        )
