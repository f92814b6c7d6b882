-- The dual of a connected instance is connected: the faces round a spin are joined one after another, and the two ends of a bond share its faces.
use Rattle.std.proofs.Common.{inl, inr, ◌≡◌, ℕ, zero, suc, ◌+◌, ◌*◌, ◌<◌, List, [], ◌∷◌, ◌++◌, length, get_or, refl, sym, ◌∙◌, ap, subst, arith}
use Rattle.std.proofs.lemmas.Bool.{cases_eq}
use Rattle.sg_model.specs.Ising.{Ising, bond_count}
use Rattle.sg_model.specs.Rotation.{dart_count, rev, tail, darts_of, following, next}
use Rattle.sg_model.specs.WellFormed.{IsInstance}
use Rattle.sg_model.specs.Connected.{IsWalk, all_bonds}
use Rattle.sg_model.specs.Connected.{IsConnected as IsConnectedInstance}
use Rattle.sg_model.proofs.Darts.{rev_first, rev_second}
use Rattle.sg_faces.specs.Faces.{faces_before, Labelling, IsFaceLabels}
use Rattle.sg_faces.proofs.BareSpins.{faces_bonded}
use Rattle.sg_model.proofs.DartPairs.{dart_cases, rev_rev, rev_below}
use Rattle.sg_model.proofs.CyclicLists.{following_inner}
use Rattle.sg_model.proofs.Rotations.{spin_distinct, in_list, tail_below, place_at, next_is, next_in_list}
use Rattle.sg_graph.specs.Walk.{IsReached, IsConnectedWeb}
use Rattle.sg_graph.proofs.Walks.{walk-append, walk-back, walk-one}
use Rattle.sg_dual.specs.Dual.{face_of, dual_web}
use Rattle.sg_dual.proofs.DualWebs.{dual_leads, one_face_alone}
use Rattle.sg_model.proofs.Paths.{dart_of_step, reached_across}

module _ (inst : Ising) (faces : Labelling) where
  -- a walk in the dual leads from the face of the first dart to that of the second
  abbrev pub AreLinked : ℕ → ℕ → Type 0
  AreLinked d e = IsReached (dual_web inst faces) (face_of faces d) (face_of faces e)

  linked_same : (d e : ℕ) → face_of faces d ≡ face_of faces e → AreLinked d e
  linked_same d e h = ([], h)

  linked_on : (d e f : ℕ) → AreLinked d e → AreLinked e f → AreLinked d f
  linked_on d e f p q = (p.0 ++ q.0, walk-append (dual_web inst faces) p.0 q.0 (face_of faces d) (face_of faces e) (face_of faces f) p.1 q.1)

  linked_back : (d e : ℕ) → AreLinked d e → AreLinked e d
  linked_back d e p = let r = walk-back (dual_web inst faces) p.0 (face_of faces d) (face_of faces e) p.1 in (r.0, r.1)

  -- the edge of its bond joins the face of a dart to that of the reverse
  pub linked_across : (d : ℕ) → d < dart_count inst → AreLinked d (rev d)
  linked_across d l = let (k, which) = dart_cases d in elim which [
    | inl e ↦
        linked_on d (2 * k) (rev d) (linked_same d (2 * k) (ap (face_of faces) e))
        (linked_on (2 * k) (2 * k + 1) (rev d) (over k (omega arith)) (linked_same (2 * k + 1) (rev d) (ap (face_of faces) (sym (ap rev e ∙ rev_first k)))))
    | inr e ↦
        linked_on d (2 * k + 1) (rev d) (linked_same d (2 * k + 1) (ap (face_of faces) e))
        (linked_on (2 * k + 1) (2 * k) (rev d) (linked_back (2 * k) (2 * k + 1) (over k (omega arith)))
        (linked_same (2 * k) (rev d) (ap (face_of faces) (sym (ap rev e ∙ rev_second k)))))
  ]
    where
      over : (k : ℕ) → k < bond_count inst → AreLinked (2 * k) (2 * k + 1)
      over k b = (k ∷ [], walk-one (dual_web inst faces) k (face_of faces (2 * k)) (face_of faces (2 * k + 1)) (dual_leads inst faces k b))

  module _ (good : IsInstance inst) (labels : IsFaceLabels inst faces) where
    -- the face on the far side of a dart is that of the next dart round its spin
    pub next_face : (d : ℕ) → d < dart_count inst → face_of faces (rev d) ≡ face_of faces (next inst d)
    next_face d l = (labels.same (rev d) (next inst d) (rev_below inst d l) (next_in_list inst good d l).0).1 (suc zero, ap (next inst) (rev_rev d))

    linked_next : (d : ℕ) → d < dart_count inst → AreLinked d (next inst d)
    linked_next d l = linked_on d (rev d) (next inst d) (linked_across d l) (linked_same (rev d) (next inst d) (next_face d l))

    -- the faces round a spin
    linked_round : (i : ℕ) → i < inst.n → (j : ℕ) → j < length (darts_of inst i) → AreLinked (get_or (darts_of inst i) 0 0) (get_or (darts_of inst i) j 0)
    linked_round i b zero l = linked_same (get_or (darts_of inst i) 0 0) (get_or (darts_of inst i) 0 0) refl
    linked_round i b (suc j) l =
        let d : ℕ = get_or (darts_of inst i) j 0 in
        let here = in_list inst good i j b (omega arith) in
        let s : j + 1 ≡ suc j = omega arith in
        let follows : next inst d ≡ get_or (darts_of inst i) (suc j) 0 =
        next_is inst good d ∙ ap (λ x. following (darts_of inst x) d) here.1
        ∙ following_inner (darts_of inst i) (spin_distinct inst good i b) j (omega arith) ∙ ap (λ x. get_or (darts_of inst i) x 0) s in
        linked_on (get_or (darts_of inst i) 0 0) d (get_or (darts_of inst i) (suc j) 0) (linked_round i b j (omega arith))
        (linked_on d (next inst d) (get_or (darts_of inst i) (suc j) 0) (linked_next d here.0)
        (linked_same (next inst d) (get_or (darts_of inst i) (suc j) 0) (ap (face_of faces) follows)))

    -- two darts that leave one spin
    pub linked_spin : (d e : ℕ) → d < dart_count inst → e < dart_count inst → tail inst d ≡ tail inst e → AreLinked d e
    linked_spin d e l m t =
        let i : ℕ = tail inst d in
        let low = tail_below inst good d l in
        let (j, jl, jd) = place_at inst good i d l refl in
        let (k, kl, ke) = place_at inst good i e m (sym t) in
        let first : ℕ = get_or (darts_of inst i) 0 0 in
        let at_j : ℕ = get_or (darts_of inst i) j 0 in
        let at_k : ℕ = get_or (darts_of inst i) k 0 in
        linked_on d at_j e (linked_same d at_j (ap (face_of faces) (sym jd)))
        (linked_on at_j first e (linked_back first at_j (linked_round i low j jl))
        (linked_on first at_k e (linked_round i low k kl) (linked_same at_k e (ap (face_of faces) ke))))

    -- along a walk of bonds
    linked_along : (path : List ℕ) (a b : ℕ) → IsWalk inst all_bonds a path b → (d e : ℕ) → d < dart_count inst → e < dart_count inst
        → tail inst d ≡ a → tail inst e ≡ b → AreLinked d e
    linked_along [] a b w d e l m p q = linked_spin d e l m (p ∙ w ∙ sym q)
    linked_along (c ∷ path) a b w d e l m p q =
        let (s, below, leaves, enters, _) = dart_of_step inst all_bonds a c w.0 in
        linked_on d s e (linked_spin d s l below (p ∙ sym leaves))
        (linked_on s (rev s) e (linked_across s below) (linked_along path c b w.1 (rev s) e (rev_below inst s below) m enters q))

    -- the dual of a connected instance is connected
    pub dual_connected : IsConnectedInstance inst → IsConnectedWeb (dual_web inst faces)
    dual_connected whole x l = elim (cases_eq (bond_count inst) 0) [
      | inl none ↦ (let first : 0 ≡ x = omega (arith, one_face_alone inst faces labels good whole none) in ([], first))
      | inr some ↦
          let all : faces.count ≡ faces_before inst (dart_count inst) = labels.counts ∙ faces_bonded inst good whole (omega arith) in
          let (d, dl, d0) = labels.used 0 (omega (arith, l, all)) in
          let (e, el, ex) = labels.used x (omega (arith, l, all)) in
          let a : ℕ = tail inst d in
          let b : ℕ = tail inst e in
          let way = reached_across inst all_bonds 0 a b (whole a (tail_below inst good d dl)) (whole b (tail_below inst good e el)) in
          let link : AreLinked d e = linked_along way.0 a b way.1 d e dl el refl refl in
          subst (λ y. IsReached (dual_web inst faces) y x) d0 (subst (IsReached (dual_web inst faces) (face_of faces d)) ex link)
    ]
