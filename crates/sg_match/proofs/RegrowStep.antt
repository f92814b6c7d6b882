-- A tree over another family, grown anew from the tree edges of an old one, in order.
use Rattle.std.proofs.Common.{◌≡◌, ◌≢◌, ◌⊎◌, ℕ, suc, ◌<◌, ◌≤◌, List, [], ◌∷◌, ◌++◌, length, get_or, Option, Some, None, sym, ap, ◌∙◌, subst, inl, inr, arith}
use Rattle.std.proofs.lemmas.Bool.{cases_lt}
use Rattle.sg_arena.specs.Family.{Family, Holds, IsTop}
use Rattle.sg_match.proofs.GrowStep.{IsTree-grown, IsTree-root, inners_more, outer_leaf_last, outer_leaf_more, outers_more}
use Rattle.sg_match.proofs.TreeLemmas.{inner_at, length-inners, length-outers, outer_at}
use Rattle.sg_slack.specs.Tight.{IsTight}
use Rattle.sg_match.specs.Pairs.{pair_of}
use Rattle.sg_match.specs.ShrunkTree.{with_outer}
use Rattle.sg_match.specs.Tree.{IsOut, IsOuterLeaf, IsTree, inners, tree_edge_at, outers}
use Rattle.sg_match.specs.declared.Edge.{Edge}
use Rattle.sg_match.specs.declared.TreeEdge.{TreeEdge}

-- the new tree so far, from the first k old tree edges: its other outer and inner tops are new ones, and the
-- leaves of the old outer tops are outer leaves
pub record IsRegrown (f g : Family) (cost : ℕ → ℕ → ℕ) (now : List (Option Edge)) (root top_root : ℕ) (edges : List TreeEdge) (NewOut NewIn : ℕ → Type 0)
    (done : List TreeEdge) (k : ℕ) : Type 0 where
  pub tree : IsTree g cost now top_root done
  pub outs : (i : ℕ) → i < length (outers top_root done) → NewOut (get_or (outers top_root done) i 0) ⊎
      ((j : ℕ) × (j ≤ k) × (get_or (outers root edges) j 0 ≡ get_or (outers top_root done) i 0))
  pub ins : (i : ℕ) → i < length (inners done) → NewIn (get_or (inners done) i 0) ⊎ ((j : ℕ) × (j < k) × (get_or (inners edges) j 0 ≡ get_or (inners done) i 0))
  pub hit : (j l : ℕ) → j ≤ k → Holds f (get_or (outers root edges) j 0) l → IsOuterLeaf g top_root done l

-- before the first tree edge
pub IsRegrown-init : (f g : Family) (cost : ℕ → ℕ → ℕ) (now : List (Option Edge)) (root top_root : ℕ) (edges : List TreeEdge) (NewOut NewIn : ℕ → Type 0) →
    IsTop g top_root → pair_of now top_root ≡ None → NewOut top_root ⊎ ((j : ℕ) × (j ≤ 0) × (get_or (outers root edges) j 0 ≡ top_root)) →
    ((l : ℕ) → Holds f root l → Holds g top_root l) → IsRegrown f g cost now root top_root edges NewOut NewIn [] 0
IsRegrown-init f g cost now root top_root edges NewOut NewIn top free named leaves = grind (arith, IsTree-root, only, none, top, free, named, leaves)
  where
    only : (P : ℕ → Type 0) → P top_root → (i : ℕ) → i < length (outers top_root []) → P (get_or (outers top_root []) i 0)
    only P p i low = grind arith

    none : (j : ℕ) → j ≤ 0 → j ≡ 0
    none j low = omega (arith, low)

module _ (f g : Family) (cost : ℕ → ℕ → ℕ) (pairs now : List (Option Edge)) (root top_root : ℕ) (edges : List TreeEdge)
    (tree : IsTree f cost pairs root edges) (tight_same : (u v : ℕ) → IsTight f cost u v → IsTight g cost u v) (NewOut NewIn : ℕ → Type 0)
    (done : List TreeEdge) (k : ℕ) (is : IsRegrown f g cost now root top_root edges NewOut NewIn done k) where
  -- one tree edge more, maybe from the next old one
  pub IsRegrown-add : (NextOut NextIn : ℕ → Type 0) (e : TreeEdge) (n : ℕ) → k ≤ n → ((t : ℕ) → NewOut t → NextOut t) → ((t : ℕ) → NewIn t → NextIn t) →
      IsTree g cost now top_root (done ++ e ∷ []) → NextOut e.outer ⊎ ((j : ℕ) × (j ≤ n) × (get_or (outers root edges) j 0 ≡ e.outer)) →
      NextIn e.inner ⊎ ((j : ℕ) × (j < n) × (get_or (inners edges) j 0 ≡ e.inner)) →
      ((j l : ℕ) → k < j → j ≤ n → Holds f (get_or (outers root edges) j 0) l → Holds g e.outer l) →
      IsRegrown f g cost now root top_root edges NextOut NextIn (done ++ e ∷ []) n
  IsRegrown-add NextOut NextIn e n less more_out more_in grown out inn leaves = record {
    tree = grown;
    outs = outers_more top_root done e (λ t. NextOut t ⊎ ((j : ℕ) × (j ≤ n) × (get_or (outers root edges) j 0 ≡ t)))
        (grind (arith, is.outs, more_out, less)) out;
    ins = inners_more top_root done e (λ t. NextIn t ⊎ ((j : ℕ) × (j < n) × (get_or (inners edges) j 0 ≡ t))) (grind (arith, is.ins, more_in, less)) inn;
    hit = grind (arith, cases_lt, outer_leaf_last, outer_leaf_more, leaves, is.hit);
  }

  module _ (low : k < length edges) where
    abbrev e : TreeEdge
    e = tree_edge_at edges k

    outer_low : (j : ℕ) → j ≤ suc k → j < length (outers root edges)
    outer_low j less = omega (arith, less, low, length-outers root edges)

    inner_low : (j : ℕ) → j ≤ k → j < length (inners edges)
    inner_low j less = omega (arith, less, low, length-inners edges)

    -- the next old tops are out of the new tree so far, if they are no new ones
    pub outer_out : (NewOut e.outer → ⊥) → (NewIn e.outer → ⊥) → IsOut top_root done e.outer
    outer_out no_out no_in = record {
      outer = λ i low_i same. elim (is.outs i low_i) [
        | inl new ↦ no_out (subst (λ t. NewOut t) same new)
        | inr at ↦ absurd (omega (
          arith,
          at.1,
          tree.shape.tops.outer_differ at.0 (suc k) (outer_low at.0 (omega (arith, at.1))) (outer_low (suc k) (omega arith))
              (at.2 ∙ same ∙ sym (outer_at root edges k low)),
        ))
      ];
      inner = λ i low_i same. elim (is.ins i low_i) [
        | inl new ↦ no_in (subst (λ t. NewIn t) same new)
        | inr at ↦ tree.shape.tops.apart (suc k) at.0 (outer_low (suc k) (omega arith)) (inner_low at.0 (omega (arith, at.1)))
            (outer_at root edges k low ∙ sym (at.2 ∙ same))
      ];
    }

    inner_out : (NewOut e.inner → ⊥) → (NewIn e.inner → ⊥) → IsOut top_root done e.inner
    inner_out no_out no_in = record {
      outer = λ i low_i same. elim (is.outs i low_i) [
        | inl new ↦ no_out (subst (λ t. NewOut t) same new)
        | inr at ↦ tree.shape.tops.apart at.0 k (outer_low at.0 (omega (arith, at.1))) (inner_low k (omega arith)) (at.2 ∙ same ∙ sym (inner_at edges k low))
      ];
      inner = λ i low_i same. elim (is.ins i low_i) [
        | inl new ↦ no_in (subst (λ t. NewIn t) same new)
        | inr at ↦ absurd (omega (
          arith,
          at.1,
          tree.shape.tops.inner_differ at.0 k (inner_low at.0 (omega (arith, at.1))) (inner_low k (omega arith)) (at.2 ∙ same ∙ sym (inner_at edges k low)),
        ))
      ];
    }

    at_next : (j l : ℕ) → k < j → j ≤ suc k → Holds f (get_or (outers root edges) j 0) l → Holds f e.outer l
    at_next j l from to held = subst (λ t. Holds f t l) (ap (λ i. get_or (outers root edges) i 0) (only j from to) ∙ outer_at root edges k low) held
      where
        only : (j : ℕ) → k < j → j ≤ suc k → j ≡ suc k
        only j from to = omega (arith, from, to)

    -- the next old tree edge is left out
    pub IsRegrown-skip : (NextOut : ℕ → Type 0) → ((t : ℕ) → NewOut t → NextOut t) → ((l : ℕ) → Holds f e.outer l → IsOuterLeaf g top_root done l) →
        IsRegrown f g cost now root top_root edges NextOut NewIn done (suc k)
    IsRegrown-skip NextOut more_out leaves = record {
      tree = is.tree;
      outs = grind (arith, is.outs, more_out);
      ins = grind (arith, is.ins);
      hit = grind (arith, cases_lt, at_next, leaves, is.hit);
    }

    -- or goes on, maybe with another outer top
    pub IsRegrown-keep : (NextOut : ℕ → Type 0) (o : ℕ) → ((t : ℕ) → NewOut t → NextOut t) → NextOut o ⊎ (o ≡ e.outer) → IsTop g e.inner → IsTop g o →
        o ≢ e.inner → IsOut top_root done o → (NewOut e.inner → ⊥) → (NewIn e.inner → ⊥) → pair_of now e.inner ≡ Some e.pair →
        ((l : ℕ) → Holds f e.inner l → Holds g e.inner l) → ((l : ℕ) → Holds f e.outer l → Holds g o l) →
        IsRegrown f g cost now root top_root edges NextOut NewIn (done ++ with_outer e o ∷ []) (suc k)
    IsRegrown-keep NextOut o more_out named top_in top_out apart out_out no_out no_in has_pair in_stays out_stays =
        let made : TreeEdge = with_outer e o in
        let edge = tree.shape.edge k low in
        let up = edge.up_to in
        IsRegrown-add NextOut NewIn made (suc k) (omega arith) more_out (λ t new. new)
        (IsTree-grown top_root done made g cost now is.tree (inner_out no_out no_in) out_out top_in top_out apart has_pair
        (in_stays e.pair.from edge.pair_from) (out_stays e.pair.to edge.pair_to) (in_stays e.up.from (tree.shape.up_from k low))
        (is.hit up.0 e.up.to up.1 up.2) (tight_same e.up.from e.up.to (tree.up_tight k low)))
        (elim named [
          | inl new ↦ inl new
          | inr same ↦ inr (suc k, omega arith, outer_at root edges k low ∙ sym same)
        ])
        (inr (k, omega arith, inner_at edges k low)) (λ j l from to held. out_stays l (at_next j l from to held))
