-- Planar duality over the definitions: a list of bonds that fits the faces is the list of broken bonds of an assignment; and it
-- fits where on each face an even number of sides belong to bonds that are to join unlike spins.
use Rattle.std.proofs.Common.{inl, inr, ap₂, ◌≡◌, ℕ, ◌+◌, ◌*◌, ◌%◌, ◌<◌, pos, Bool, true, false, cond, ◌&&◌, List, refl, sym, ◌∙◌, ap, arith, get_or, length, ◌↔◌}
use Rattle.std.specs.List.{range_with_len}
use Rattle.std.proofs.lemmas.Bool.{cases_eq}
use Rattle.sg_base.specs.Parity.{xor, odd, parity_below}
use Rattle.sg_base.specs.Sets.{holds, is_marked}
use Rattle.sg_base.specs.Ends.{is_end}
use Rattle.sg_base.proofs.ParityLaws.{parity_below-same, parity_below-xor, odd_is, odd-count_by, xor_cancel}
use Rattle.sg_base.proofs.Ranges.{parity_by_range}
use Rattle.sg_base.proofs.Recounting.{parity_below_by_pairs}
use Rattle.sg_model.specs.Ising.{Ising, bond_at, bond_count}
use Rattle.sg_model.specs.Rotation.{dart_count, next, tail}
use Rattle.sg_model.specs.WellFormed.{IsInstance}
use Rattle.sg_model.specs.Connected.{IsConnected}
use Rattle.sg_model.specs.Broken.{is_negative}
use Rattle.sg_model.proofs.Darts.{tail_first, tail_second}
use Rattle.sg_faces.specs.Faces.{Labelling, IsFaceLabels, face_count, faces_before}
use Rattle.sg_faces.specs.Sides.{sides_on}
use Rattle.sg_faces.specs.Euler.{IsEuler}
use Rattle.sg_faces.proofs.BareSpins.{faces_bonded}
use Rattle.sg_planar.specs.BrokenLists.{FitsFaces}
use Rattle.sg_planar.specs.Following.{is_unlike, FollowsBonds}
use Rattle.sg_planar.proofs.PlanarDuality.{planar_duality, CutBy}
use Rattle.sg_planar.proofs.FaceNumbers.{AreFaceNumbers, labels_number}
use Rattle.sg_planar.proofs.RotationSums.{numbered_embedding, spins_connected}
use Rattle.sg_planar.proofs.EulerBounds.{connected_sum}
use Rattle.sg_planar.specs.Sides.{is_marked_side}

-- the face on the side of dart d
abbrev pub face_at : Labelling → ℕ → ℕ
face_at faces d = get_or faces.labels d 0

-- how many sides of bonds that pass lie on a face, up to an even number: by bonds in place of darts
pub sides_parity : (inst : Ising) (faces : Labelling) (f : ℕ) (p : ℕ → Bool) →
    odd (sides_on inst faces f p) ≡ parity_below (λ k. p k && is_end (face_at faces (2 * k)) (face_at faces (2 * k + 1)) f) (bond_count inst)
sides_parity inst faces f p = grind (arith, odd-count_by, parity_by_range, parity_below_by_pairs)

-- numbers with one rest by 2 are both odd or both even
pub same_parity : (a b : ℕ) → a % 2 ≡ b % 2 → xor (odd a) (odd b) ≡ false
same_parity a b e = grind (arith, odd_is)

-- a condition behind an `xor` goes into both sides
pub xor-and : (x y e : Bool) → (xor x y && e) ≡ xor (x && e) (y && e)
xor-and x y e = grind arith

module _ (inst : Ising) (faces : Labelling) (list : List ℕ) where
  abbrev negative : ℕ → Bool
  negative k = is_negative (bond_at inst k)

  -- one end and not both of the dual edge of bond k is face f
  abbrev meets : ℕ → ℕ → Bool
  meets f k = is_end (face_at faces (2 * k)) (face_at faces (2 * k + 1)) f

  -- the bonds that are to join unlike spins, by the negative bonds and those of the list
  unlike_parity : (f : ℕ) → parity_below (λ k. is_unlike inst list k && meets f k) (bond_count inst) ≡
      xor (odd (sides_on inst faces f negative)) (odd (sides_on inst faces f (holds list)))
  unlike_parity f =
      parity_below-same (λ k. is_unlike inst list k && meets f k) (λ k. xor (negative k && meets f k) (holds list k && meets f k)) (bond_count inst)
      (λ k l. xor-and (negative k) (holds list k) (meets f k))
      ∙ parity_below-xor (λ k. negative k && meets f k) (λ k. holds list k && meets f k) (bond_count inst)
      ∙ ap₂ xor (sym (sides_parity inst faces f negative)) (sym (sides_parity inst faces f (holds list)))

  -- the test that no face has an odd number of sides that are to join unlike spins
  module _ (marks : List Bool) (marked : (k : ℕ) → k < bond_count inst → is_marked marks k ≡ is_unlike inst list k) where
    face_parity : (f : ℕ) → parity_below (is_marked_side faces marks f) (dart_count inst) ≡
        xor (odd (sides_on inst faces f negative)) (odd (sides_on inst faces f (holds list)))
    face_parity f =
        sym (parity_by_range (is_marked_side faces marks f) (dart_count inst))
        ∙ sym (odd-count_by (is_marked_side faces marks f) (range_with_len 0 (dart_count inst)))
        ∙ sides_parity inst faces f (is_marked marks)
        ∙ parity_below-same (λ k. is_marked marks k && meets f k) (λ k. is_unlike inst list k && meets f k) (bond_count inst)
        (λ k l. ap (λ b. b && meets f k) (marked k l))
        ∙ unlike_parity f

    pub fits_tested : (odds lent : List Bool) (result : Bool) → lent ≡ odds → length lent ≡ faces.count →
        ((f : ℕ) → f < faces.count → is_marked odds f ≡ parity_below (is_marked_side faces marks f) (dart_count inst)) →
        ((result ≡ true) ↔ ((i : ℕ) → i < length lent → is_marked lent i ≡ false)) → (result ≡ true) ↔ FitsFaces inst faces list
    fits_tested odds lent result same room counted test = (
      λ yes' f l. back (sides_on inst faces f negative) (sides_on inst faces f (holds list)) (sym (at f l) ∙ test.0 yes' f (omega arith)),
      λ fits. test.1 (λ i l. at i (omega arith)
          ∙ same_parity (sides_on inst faces i negative) (sides_on inst faces i (holds list)) (sym (fits i (omega arith)))),
    )
      where
        at : (f : ℕ) → f < faces.count → is_marked lent f ≡ xor (odd (sides_on inst faces f negative)) (odd (sides_on inst faces f (holds list)))
        at f l = ap (λ ms. is_marked ms f) same ∙ counted f l ∙ face_parity f

        back : (a b : ℕ) → xor (odd a) (odd b) ≡ false → b % 2 ≡ a % 2
        back a b e = odd_is b ∙ ap (λ x. cond {A = ℕ} x 1 0) (sym (xor_cancel (odd a) (odd b) e)) ∙ sym (odd_is a)

module _ (inst : Ising) (good : IsInstance inst) where
  module _ (faces : Labelling) (labels : IsFaceLabels inst faces) (connected : IsConnected inst) (genus_zero : IsEuler inst (pos 2))
      (list : List ℕ) (fits : FitsFaces inst faces list) where
    -- the bonds that are to join unlike spins are even on each face
    even_on_faces : (f : ℕ) → f < faces.count → parity_below (λ k. is_unlike inst list k && meets inst faces list f k) (bond_count inst) ≡ false
    even_on_faces f b =
        unlike_parity inst faces list f
        ∙ same_parity (sides_on inst faces f (negative inst faces list)) (sides_on inst faces f (holds list)) (sym (fits f b))

    -- so some assignment breaks exactly the bonds of the list
    pub fitting_follows : (down : ℕ → Bool) × FollowsBonds inst (is_unlike inst list) down
    fitting_follows = elim (cases_eq (bond_count inst) 0) [
      | inl none ↦ ((λ x. false), record { first_up = refl; across = λ k l. absurd (omega arith) })
      | inr ne ↦ from_cut (cut (omega arith))
    ]
      where
        cut : 0 < bond_count inst → CutBy (bond_count inst) (tail inst) (is_unlike inst list)
        cut some =
            let sum : inst.n + face_count inst ≡ bond_count inst + 2 = connected_sum inst good connected genus_zero in
            let all : face_count inst ≡ faces_before inst (dart_count inst) = faces_bonded inst good connected some in
            let numbers : AreFaceNumbers inst (face_at faces) (faces_before inst (dart_count inst)) = labels_number inst good faces labels in
            let face : face_at faces 0 < faces_before inst (dart_count inst) = numbers.below 0 (omega arith) in
            planar_duality inst.n (bond_count inst) (faces_before inst (dart_count inst)) (tail inst) (next inst) (face_at faces)
            (numbered_embedding inst good (face_at faces) (faces_before inst (dart_count inst)) numbers) (is_unlike inst list) good.draft.has_spin
            (spins_connected inst good connected) (omega arith) (omega arith) (λ f l. even_on_faces f (omega (arith, labels.counts)))

        from_cut : CutBy (bond_count inst) (tail inst) (is_unlike inst list) → (down : ℕ → Bool) × FollowsBonds inst (is_unlike inst list) down
        from_cut c = grind (arith, tail_first, tail_second, c.values, c.at_root, c.cuts)
