-- The frustrated faces: even in number, since each negative bond has two sides, and nodes of the dual that rise.
use Rattle.std.proofs.Common.{◌≡◌, ℕ, ◌+◌, ◌*◌, ◌/◌, ◌%◌, ◌<◌, Bool, false, ◌&&◌, eqb, sym, ◌∙◌, ap, arith, List, length, count_by}
use Rattle.std.specs.List.{range_with_len}
use Rattle.std.proofs.lemmas.List.Sums.{length-filter}
use Rattle.sg_model.specs.Ising.{Ising, bond_count}
use Rattle.sg_model.specs.Rotation.{dart_count}
use Rattle.sg_faces.specs.Faces.{Labelling, IsFaceLabels}
use Rattle.sg_faces.proofs.Traced.{label_below}
use Rattle.sg_graph.specs.Join.{AreTerminals}
use Rattle.sg_base.specs.Parity.{odd, parity_by, parity_below}
use Rattle.sg_base.specs.Sets.{chosen_below, is_marked}
use Rattle.sg_base.proofs.ParityLaws.{even_mod, odd_test, odd-count_by, parity_below-same, parity_exchange, parity_below_pick}
use Rattle.sg_base.proofs.Choosing.{chosen_below_same}
use Rattle.sg_base.proofs.Ranges.{parity_by_range, parity_below_pairs}
use Rattle.sg_base.proofs.RisingLists.{chosen_below_low, chosen_below_rises}
use Rattle.sg_dual.specs.Dual.{face_of, dual_web, is_negative_bond, negative_sides, is_frustrated, frustrated_faces}

module _ (inst : Ising) (faces : Labelling) where
  -- whether the bond of dart d is negative
  abbrev is_negative_dart : ℕ → Bool
  is_negative_dart d = is_negative_bond inst (d / 2)

  -- whether dart d belongs to a negative bond and lies on face f
  abbrev pub is_negative_side : ℕ → ℕ → Bool
  is_negative_side f d = is_negative_bond inst (d / 2) && eqb (face_of faces d) f

  -- a face is frustrated if an odd number of the darts pass
  pub frustrated_parity : (f : ℕ) → is_frustrated inst faces f ≡ parity_below (is_negative_side f) (dart_count inst)
  frustrated_parity f =
      odd_test (negative_sides inst faces f)
      ∙ odd-count_by (is_negative_side f) (range_with_len 0 (dart_count inst))
      ∙ parity_by_range (is_negative_side f) (dart_count inst)

  -- the faces whose marks are set
  pub frustrated_from_marks : (marks lent : List Bool) (terminals : List ℕ) → lent ≡ marks → length lent ≡ faces.count →
      ((f : ℕ) → f < faces.count → is_marked marks f ≡ is_frustrated inst faces f) →
      terminals ≡ chosen_below (is_marked lent) (length lent) → terminals ≡ frustrated_faces inst faces
  frustrated_from_marks marks lent terminals same room right chosen =
      chosen ∙ ap (chosen_below (is_marked lent)) room ∙ ap (λ (ms : List Bool). chosen_below (is_marked ms) faces.count) same
      ∙ chosen_below_same (is_marked marks) (is_frustrated inst faces) faces.count right

  -- both darts of a bond are negative, or neither
  both_sides : (k : ℕ) → is_negative_dart (2 * k + 1) ≡ is_negative_dart (2 * k)
  both_sides k =
      let first : 2 * k / 2 ≡ k = omega arith in
      let second : (2 * k + 1) / 2 ≡ k = omega arith in
      ap (is_negative_bond inst) (second ∙ sym first)

  module _ (labels : IsFaceLabels inst faces) where
    -- a dart lies on one face
    one_face : (d : ℕ) → d < dart_count inst → parity_below (λ f. is_negative_side f d) faces.count ≡ is_negative_bond inst (d / 2)
    one_face d l =
        parity_below_pick (λ _. is_negative_bond inst (d / 2)) (face_of faces d) faces.count (label_below inst faces labels d l)

    frustrated_even : parity_below (is_frustrated inst faces) faces.count ≡ false
    frustrated_even =
        parity_below-same (is_frustrated inst faces) (λ f. parity_by (is_negative_side f) (range_with_len 0 (dart_count inst))) faces.count
        (λ f _. frustrated_parity f ∙ sym (parity_by_range (is_negative_side f) (dart_count inst)))
        ∙ sym (parity_exchange (λ d f. is_negative_side f d) (range_with_len 0 (dart_count inst)) faces.count)
        ∙ parity_by_range (λ d. parity_below (λ f. is_negative_side f d) faces.count) (dart_count inst)
        ∙ parity_below-same (λ d. parity_below (λ f. is_negative_side f d) faces.count) is_negative_dart (dart_count inst) one_face
        ∙ parity_below_pairs is_negative_dart (bond_count inst) both_sides

    -- the frustrated faces are even in number
    pub even_frustrated : length (frustrated_faces inst faces) % 2 ≡ 0
    even_frustrated =
        let counted : odd (count_by (is_frustrated inst faces) (range_with_len 0 faces.count)) ≡ false =
        odd-count_by (is_frustrated inst faces) (range_with_len 0 faces.count) ∙ parity_by_range (is_frustrated inst faces) faces.count ∙ frustrated_even in
        ap (λ n. n % 2) (length-filter (is_frustrated inst faces) (range_with_len 0 faces.count))
        ∙ even_mod (count_by (is_frustrated inst faces) (range_with_len 0 faces.count)) counted

  -- they are nodes of the dual, and rise
  pub frustrated_terminals : AreTerminals (dual_web inst faces) (frustrated_faces inst faces)
  frustrated_terminals = record {
    rising = chosen_below_rises (is_frustrated inst faces) faces.count;
    below = chosen_below_low (is_frustrated inst faces) faces.count;
  }
