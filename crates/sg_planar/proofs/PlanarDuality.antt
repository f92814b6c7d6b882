-- Planar duality: in a connected embedding the bonds outside a spanning tree connect the faces, so that Euler's number is
-- at most 2; where it is 2, a set of bonds that is even on each face is a cut of the spins.
use Rattle.std.proofs.Common.{ap₂, ◌≡◌, ℕ, zero, suc, ◌+◌, ◌*◌, ◌<◌, ◌≤◌, Bool, false, ◌&&◌, eqb, ◌++◌, refl, sym, ◌∙◌, ap, arith, All, length, length-append}
use Rattle.std.proofs.lemmas.List.FromFn.{length-range_with_len}
use Rattle.std.proofs.lemmas.List.Sorted.{length_permutation}
use Rattle.sg_base.specs.Parity.{xor, parity_below}
use Rattle.sg_base.specs.Ends.{is_end}
use Rattle.sg_base.proofs.ParityLaws.{xor_cancel, parity_below-same, parity_below-xor}
use Rattle.sg_base.proofs.Ranges.{parity_by_range}
use Rattle.sg_base.proofs.Recounting.{All_range_at}
use Rattle.sg_planar.proofs.SpanningTrees.{count_outside, count_outside-joined, joined, Reaches, Span, span, of_both, of_rest, in_rest, in_tree}
use Rattle.sg_planar.proofs.Embeddings.{root, IsEmbedding, first, second, bonds, SpinsConnected, spin_ends, face_ends, cuts_meet_evenly, one_colour}

and_comm : (a b : Bool) → (a && b) ≡ (b && a)
and_comm a b = grind arith

xor-and : (x y e : Bool) → (xor x y && e) ≡ xor (x && e) (y && e)
xor-and x y e = grind arith

outside_none : (n : ℕ) → count_outside (λ x. false) n ≡ n
outside_none zero = refl
outside_none (suc n) = omega (arith, outside_none n)

-- all nodes but one are outside the root
outside_root : (n r : ℕ) → n ≡ suc r → count_outside root n ≡ r
outside_root n r e =
    let less : suc (count_outside (joined (λ x. false) 0) n) ≡ count_outside (λ x. false) n =
    count_outside-joined (λ x. false) 0 n (omega arith) refl in
    let w : count_outside (λ x. false) n ≡ n = outside_none n in
    omega arith

-- values of the spins that differ exactly on the bonds that pass c
pub record CutBy (m : ℕ) (tail : ℕ → ℕ) (c : ℕ → Bool) : Type 0 where
  pub values : ℕ → Bool
  pub at_root : values 0 ≡ false
  pub cuts : (k : ℕ) → k < m → c k ≡ xor (values (first tail k)) (values (second tail k))

module _ (n m F : ℕ) (tail next face : ℕ → ℕ) (emb : IsEmbedding n m F tail next face) where
  -- the ends of bond k, and the faces on its two sides
  abbrev u : ℕ → ℕ
  u = first tail

  abbrev v : ℕ → ℕ
  v = second tail

  abbrev left : ℕ → ℕ
  left = first face

  abbrev right : ℕ → ℕ
  right = second face

  module _ (c : ℕ → Bool) (r q : ℕ) (spins : n ≡ suc r) (faces : F ≡ suc q) (connected : SpinsConnected n m tail) where
    -- a spanning tree of the spins and the values that it gives
    found : Span u v n c r root (λ x. false) (bonds m)
    found = span u v n c r root (λ x. false) (bonds m) (outside_root n r spins) (spin_ends n m F tail next face emb) connected

    -- what holds of the bonds of the tree and of those outside it holds of all
    everywhere : (P : ℕ → Type 0) → All P found.tree → All P found.rest → (k : ℕ) → k < m → P k
    everywhere P h t = All_range_at P m (of_both u v n c found P h t)

    -- the bonds outside the tree connect all faces
    rest_connects : Reaches left right F root found.rest
    rest_connects B holds same f l =
        let at_f : (d : ℕ) × (d < 2 * m) × (face d ≡ f) = emb.face_used f l in
        let at_0 : (d : ℕ) × (d < 2 * m) × (face d ≡ 0) = emb.face_used 0 (omega arith) in
        ap B (sym at_f.2)
        ∙ one_colour n m F tail next face emb connected B
        (λ k b. xor_cancel (B (left k)) (B (right k)) (everywhere (λ k. leaves k ≡ false) on_tree on_rest k b)) at_f.0 at_0.0 at_f.1 at_0.1
        ∙ ap B at_0.2 ∙ holds 0 (omega arith) refl
      where
        leaves : ℕ → Bool
        leaves k = xor (B (left k)) (B (right k))

        on_rest : All (λ k. leaves k ≡ false) found.rest
        on_rest = grind arith

        -- the bonds that leave the set are even at each spin
        on_tree : All (λ k. leaves k ≡ false) found.tree
        on_tree = found.bare leaves (λ x b out.
            in_tree u v n c found leaves (λ k. is_end (u k) (v k) x) on_rest
            ∙ parity_by_range (λ k. leaves k && is_end (u k) (v k) x) m
            ∙ parity_below-same (λ k. leaves k && is_end (u k) (v k) x) (λ k. is_end (u k) (v k) x && leaves k) m
            (λ k b. and_comm (leaves k) (is_end (u k) (v k) x))
            ∙ cuts_meet_evenly n m F tail next face emb (λ y. eqb y x) B)

    -- a spanning tree of the faces
    across : Span left right F c q root (λ x. false) found.rest
    across =
        span left right F c q root (λ x. false) found.rest (outside_root F q faces)
        (of_rest u v n c found (λ k. (left k < F) × (right k < F)) (face_ends n m F tail next face emb)) rest_connects

    -- the trees have a bond for each spin and each face but the roots
    sizes : r + (q + length across.rest) ≡ m
    sizes =
        omega (
          arith,
          length_permutation (bonds m) (found.tree ++ found.rest) found.is,
          length_permutation found.rest (across.tree ++ across.rest) across.is,
          length-append found.tree found.rest,
          length-append across.tree across.rest,
          length-range_with_len 0 m,
          found.size,
          across.size,
        )

    planar_cut : n + F ≡ m + 2 → ((f : ℕ) → f < F → parity_below (λ k. c k && is_end (first face k) (second face k) f) m ≡ false) →
        (k : ℕ) → k < m → c k ≡ xor (found.values (first tail k)) (found.values (second tail k))
    planar_cut euler even k l =
        xor_cancel (c k) (cut k)
        (everywhere (λ k. wrong k ≡ false) right_on_tree (of_both left right F c across (λ k. wrong k ≡ false) on_tree (none wrong)) k l)
      where
        cut : ℕ → Bool
        cut k = xor (found.values (u k)) (found.values (v k))

        -- what is wanted less what the values give
        wrong : ℕ → Bool
        wrong k = xor (c k) (cut k)

        right_on_tree : All (λ k. wrong k ≡ false) found.tree
        right_on_tree = grind arith

        -- no bond is outside both trees
        none : (d : ℕ → Bool) → All (λ k. d k ≡ false) across.rest
        none d i e b = absurd (omega (arith, sizes))

        -- what is wrong is even on each face, and so it is nothing
        on_tree : All (λ k. wrong k ≡ false) across.tree
        on_tree = across.bare wrong (λ f b out.
            in_tree left right F c across wrong (side f) (none wrong) ∙ in_rest u v n c found wrong (side f) right_on_tree
            ∙ parity_by_range (λ k. wrong k && side f k) m
            ∙ parity_below-same (λ k. wrong k && side f k) (λ k. xor (c k && side f k) (cut k && side f k)) m (λ k _. xor-and (c k) (cut k) (side f k))
            ∙ parity_below-xor (λ k. c k && side f k) (λ k. cut k && side f k) m
            ∙ ap₂ xor (even f b) (cuts_meet_evenly n m F tail next face emb found.values (λ g. eqb g f)))
          where
            side : ℕ → ℕ → Bool
            side f k = is_end (left k) (right k) f

  -- numbers that are not 0
  some_pred : (k : ℕ) → 0 < k → (r : ℕ) × (k ≡ suc r)
  some_pred zero l = absurd (omega arith)
  some_pred (suc r) l = (r, refl)

  -- no connected embedding has an Euler number above 2
  pub euler_bound_embedding : 0 < n → SpinsConnected n m tail → 0 < F → n + F ≤ m + 2
  euler_bound_embedding has_spin connected some =
      let (r, spins) = some_pred n has_spin in
      let (q, faces) = some_pred F some in
      omega (arith, spins, faces, sizes (λ k. false) r q spins faces connected)

  -- where the Euler number is 2, a set of bonds that is even on each face is a cut of the spins
  pub planar_duality : (c : ℕ → Bool) → 0 < n → SpinsConnected n m tail → n + F ≡ m + 2 → 0 < F →
      ((f : ℕ) → f < F → parity_below (λ k. c k && is_end (first face k) (second face k) f) m ≡ false) → CutBy m tail c
  planar_duality c has_spin connected euler some even =
      let (r, spins) = some_pred n has_spin in
      let (q, faces) = some_pred F some in
      record {
        values = (found c r q spins faces connected).values;
        at_root = (found c r q spins faces connected).agree 0 has_spin refl;
        cuts = planar_cut c r q spins faces connected euler even;
      }
