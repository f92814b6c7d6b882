-- An odd cut of the dual is a frustrated loop of the instance: it meets each spin evenly, as round a spin one enters the faces of
-- a set as often as one leaves it; and an odd number of its bonds are negative, as an odd number of the faces inside are frustrated.
use Rattle.std.proofs.Common.{ap₂, ◌≡◌, ℕ, ◌+◌, ◌*◌, ◌%◌, ◌<◌, pos, Bool, true, false, ◌&&◌, eqb, cond, List, sym, ◌∙◌, ap, subst, arith, length, count_by, All}
use Rattle.std.specs.List.{range_with_len}
use Rattle.std.specs.List.Sorted.{IsStrictlyIncreasing}
use Rattle.sg_base.specs.Parity.{xor, odd, parity_below}
use Rattle.sg_base.specs.Sets.{holds}
use Rattle.sg_base.specs.Ends.{is_end, degree_parity, EndsBelow}
use Rattle.sg_base.proofs.ParityLaws.{odd_is, odd-count_by, odd_from_mod, parity_below-same, some_from_odd}
use Rattle.sg_base.proofs.Handshake.{handshake}
use Rattle.sg_base.proofs.Recounting.{All_range}
use Rattle.sg_base.proofs.RisingLists.{chosen_below_low, chosen_below_rises, holds-chosen_below, members_parity}
use Rattle.sg_model.specs.Ising.{Ising, IsBond, bond_at, bond_count}
use Rattle.sg_model.specs.Rotation.{dart_count, next, tail}
use Rattle.sg_model.specs.WellFormed.{IsInstance}
use Rattle.sg_model.proofs.Darts.{tail_first, tail_second}
use Rattle.sg_faces.specs.Faces.{Labelling, IsFaceLabels, faces_before}
use Rattle.sg_graph.specs.declared.web.Edge.{Edge}
use Rattle.sg_graph.specs.Web.{edge_count}
use Rattle.sg_graph.specs.OddCut.{crosses, IsOddCut}
use Rattle.sg_dual.specs.Dual.{dual_web, face_of, frustrated_faces, is_frustrated, is_negative_bond, negative_sides}
use Rattle.sg_faces.proofs.Traced.{label_below}
use Rattle.sg_dual.proofs.DualWebs.{dual_edge_at, dual_edge_count}
use Rattle.sg_base.proofs.ParityLaws.{odd_test}
use Rattle.sg_base.proofs.Ranges.{parity_by_range}
use Rattle.sg_check.specs.Loop.{IsFrustratedLoop, degree, is_end_of, negative_count}
use Rattle.sg_check.proofs.WeakDuality.{one_end}
use Rattle.sg_planar.proofs.Embeddings.{cuts_meet_evenly}
use Rattle.sg_planar.proofs.FaceNumbers.{labels_number}
use Rattle.sg_planar.proofs.FittingBonds.{face_at, sides_parity}
use Rattle.sg_planar.proofs.RotationSums.{numbered_embedding}

mod_from_odd : (n : ℕ) (b : Bool) → odd n ≡ b → n % 2 ≡ cond {A = ℕ} b 1 0
mod_from_odd n b e = odd_is n ∙ ap (λ b. cond {A = ℕ} b 1 0) e

module _ (inst : Ising) (faces : Labelling) where
  -- the faces on the two sides of bond k
  abbrev pub near_face : ℕ → ℕ
  near_face k = face_of faces (2 * k)

  abbrev pub far_face : ℕ → ℕ
  far_face k = face_of faces (2 * k + 1)

  -- whether exactly one side of bond k lies on a face of the set
  abbrev pub parts : (ℕ → Bool) → ℕ → Bool
  parts inside k = xor (inside (near_face k)) (inside (far_face k))

  -- the edge of bond k crosses where the bond parts the faces
  pub crosses_is : (inside : ℕ → Bool) (k : ℕ) → k < bond_count inst → crosses (dual_web inst faces) inside k ≡ parts inside k
  crosses_is inside k l = ap (λ (e : Edge). xor (inside e.a) (inside e.b)) (dual_edge_at inst faces k l)

  abbrev frustrated : ℕ → Bool
  frustrated = is_frustrated inst faces

  abbrev bonds : List ℕ
  bonds = range_with_len 0 (bond_count inst)

  -- the frustrated faces inside, counted over all faces
  frustrated_inside : (inside : ℕ → Bool) → count_by inside (frustrated_faces inst faces) % 2 ≡ 1 →
      parity_below (λ f. inside f && frustrated f) faces.count ≡ true
  frustrated_inside inside h =
      parity_below-same (λ f. inside f && frustrated f) (λ f. inside f && holds (frustrated_faces inst faces) f) faces.count
      (λ f l. ap (λ b. inside f && b) (sym (holds-chosen_below frustrated faces.count f l)))
      ∙ members_parity inside (frustrated_faces inst faces) faces.count (chosen_below_low frustrated faces.count) (chosen_below_rises frustrated faces.count)
      ∙ sym (odd-count_by inside (frustrated_faces inst faces))
      ∙ odd_from_mod (count_by inside (frustrated_faces inst faces)) h

  -- whether exactly one end of bond k, or of its darts, lies in the set of spins
  abbrev unlike : (ℕ → Bool) → ℕ → Bool
  unlike t k = xor (t (bond_at inst k).u) (t (bond_at inst k).v)

  abbrev unlike_darts : (ℕ → Bool) → ℕ → Bool
  unlike_darts t k = xor (t (tail inst (2 * k))) (t (tail inst (2 * k + 1)))

  -- every cut of the spins meets every cut of the faces in an even number of bonds
  pub meet_evenly : IsInstance inst → IsFaceLabels inst faces → (t inside : ℕ → Bool) →
      parity_below (λ k. unlike t k && parts inside k) (bond_count inst) ≡ false
  meet_evenly good labels t inside =
      let count : ℕ = faces_before inst (dart_count inst) in
      parity_below-same (λ k. unlike t k && parts inside k) (λ k. unlike_darts t k && parts inside k) (bond_count inst)
      (λ k _. ap₂ (λ u v. xor (t u) (t v) && parts inside k) (sym (tail_first inst k)) (sym (tail_second inst k)))
      ∙ cuts_meet_evenly inst.n (bond_count inst) count (tail inst) (next inst) (face_at faces)
      (numbered_embedding inst good (face_at faces) count (labels_number inst good faces labels)) t inside

  module _
      (good : IsInstance inst) (labels : IsFaceLabels inst faces) (edges : List ℕ)
      (cut : IsOddCut (dual_web inst faces) (frustrated_faces inst faces) edges) where
    abbrev crossing : ℕ → Bool
    crossing = crosses (dual_web inst faces) cut.inside

    low : All (λ k. k < bond_count inst) edges
    low =
        let on_edges : All (λ k. k < edge_count (dual_web inst faces)) edges =
        subst (All (λ k. k < edge_count (dual_web inst faces))) (sym cut.is) (chosen_below_low crossing (edge_count (dual_web inst faces))) in
        subst (λ m. All (λ k. k < m) edges) (dual_edge_count inst faces) on_edges

    rises : IsStrictlyIncreasing edges
    rises = subst IsStrictlyIncreasing (sym cut.is) (chosen_below_rises crossing (edge_count (dual_web inst faces)))

    holds_parted : (k : ℕ) → k < bond_count inst → holds edges k ≡ parts cut.inside k
    holds_parted k l =
        ap (λ es. holds es k) cut.is
        ∙ holds-chosen_below crossing (edge_count (dual_web inst faces)) k (omega (arith, dual_edge_count inst faces))
        ∙ crosses_is cut.inside k l

    -- the bonds of the cut that pass, counted over all bonds
    over_cut : (p : ℕ → Bool) → odd (count_by p edges) ≡ parity_below (λ k. p k && parts cut.inside k) (bond_count inst)
    over_cut p =
        odd-count_by p edges
        ∙ sym (members_parity p edges (bond_count inst) low rises)
        ∙ parity_below-same (λ k. p k && holds edges k) (λ k. p k && parts cut.inside k) (bond_count inst) (λ k l. ap (λ b. p k && b) (holds_parted k l))

    -- one end and not both is the spin, as the two ends differ
    one_end_here : (i k : ℕ) → k < bond_count inst → is_end_of (bond_at inst k) i ≡ unlike (λ x. eqb x i) k
    one_end_here i k l =
        let bond : IsBond inst.n (bond_at inst k) = good.draft.joined k (record { u = 0; v = 0; j = pos 0 }) l in
        sym (one_end (bond_at inst k).u (bond_at inst k).v i bond.ends_differ)

    even_at : (i : ℕ) → odd (degree inst edges i) ≡ false
    even_at i =
        over_cut (λ k. is_end_of (bond_at inst k) i)
        ∙ parity_below-same (λ k. is_end_of (bond_at inst k) i && parts cut.inside k) (λ k. unlike (λ x. eqb x i) k && parts cut.inside k) (bond_count inst)
        (λ k l. ap (λ b. b && parts cut.inside k) (one_end_here i k l))
        ∙ meet_evenly good labels (λ x. eqb x i) cut.inside

    ends_of : EndsBelow near_face far_face faces.count bonds
    ends_of = All_range (λ k. (near_face k < faces.count) × (far_face k < faces.count)) (bond_count inst)
        (λ k l. (label_below inst faces labels (2 * k) (omega arith), label_below inst faces labels (2 * k + 1) (omega arith)))

    -- the negative bonds that end at a face in the dual
    abbrev negatives_at : ℕ → Bool
    negatives_at f = degree_parity near_face far_face (is_negative_bond inst) bonds f

    negative_on : (f : ℕ) → negatives_at f ≡ frustrated f
    negative_on f =
        parity_by_range (λ k. is_negative_bond inst k && is_end (near_face k) (far_face k) f) (bond_count inst)
        ∙ sym (sides_parity inst faces f (is_negative_bond inst))
        ∙ sym (odd_test (negative_sides inst faces f))

    odd_negatives : odd (negative_count inst edges) ≡ true
    odd_negatives =
        over_cut (is_negative_bond inst)
        ∙ sym (parity_by_range (λ k. is_negative_bond inst k && parts cut.inside k) (bond_count inst))
        ∙ handshake near_face far_face (is_negative_bond inst) cut.inside faces.count bonds ends_of
        ∙ parity_below-same (λ f. cut.inside f && negatives_at f) (λ f. cut.inside f && frustrated f) faces.count
        (λ f _. ap (λ b. cut.inside f && b) (negative_on f))
        ∙ frustrated_inside cut.inside cut.odd

    some_bond : 0 < length edges
    some_bond =
        let found = some_from_odd (is_negative_bond inst) edges (sym (odd-count_by (is_negative_bond inst) edges) ∙ odd_negatives) in
        omega (arith, found.1)

    -- an odd cut of the dual is a frustrated loop
    pub odd_cut_is_loop : IsFrustratedLoop inst edges
    odd_cut_is_loop = record {
      set = record { not_empty = some_bond; rising = rises; below = low };
      even = λ i _. mod_from_odd (degree inst edges i) false (even_at i);
      odd = mod_from_odd (negative_count inst edges) true odd_negatives;
    }
