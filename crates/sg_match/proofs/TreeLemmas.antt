-- What the tree's records say of its tops.
use Rattle.std.proofs.Common.{◌≡◌, ℕ, zero, suc, ◌<◌, List, length, Option, Some, get_or, refl, sym, ap, ◌∙◌, subst, ◌⊎◌, inl, inr, arith}
use Rattle.std.proofs.lemmas.Option.{none-some, same_Some}
use Rattle.std.proofs.lemmas.List.{get_or-map}
use Rattle.std.proofs.Math.ListN.{length-map}
use Rattle.sg_arena.proofs.FamilyLemmas.{leaf_bound, name_bound, top-apart}
use Rattle.sg_arena.specs.Family.{Family, Holds, IsFamily, IsTop, leaf_count}
use Rattle.sg_slack.proofs.DistinctLemmas.{short}
use Rattle.sg_match.proofs.PairLemmas.{mate_is}
use Rattle.sg_slack.specs.Tight.{IsTight}
use Rattle.sg_match.specs.Pairs.{IsPaired, flipped, pair_of}
use Rattle.sg_match.specs.Tree.{IsOut, IsShape, IsTree, blank_tree_edge, inners, tree_edge_at, outers}
use Rattle.sg_match.specs.declared.Edge.{Edge}
use Rattle.sg_match.specs.declared.TreeEdge.{TreeEdge}

-- there is one outer top more than tree edges
pub length-outers : (r : ℕ) (edges : List TreeEdge) → length (outers r edges) ≡ suc (length edges)
length-outers r edges = ap suc (length-map edges (λ l. l.outer))

-- there are as many inner tops as tree edges
pub length-inners : (edges : List TreeEdge) → length (inners edges) ≡ length edges
length-inners edges = length-map edges (λ l. l.inner)

-- inner top i is that of tree edge i
pub inner_at : (edges : List TreeEdge) (i : ℕ) → i < length edges → get_or (inners edges) i 0 ≡ (tree_edge_at edges i).inner
inner_at edges i low = get_or-map (λ l. l.inner) edges i blank_tree_edge 0 low

-- outer top i + 1 is that of tree edge i
pub outer_at : (r : ℕ) (edges : List TreeEdge) (i : ℕ) → i < length edges → get_or (outers r edges) (suc i) 0 ≡ (tree_edge_at edges i).outer
outer_at r edges i low = get_or-map (λ l. l.outer) edges i blank_tree_edge 0 low

module _ (f : Family) (r : ℕ) (edges : List TreeEdge) (shape : IsShape f r edges) where
  -- an inner top is a top
  pub inner_top : (i : ℕ) → i < length edges → IsTop f (tree_edge_at edges i).inner
  inner_top i low = subst (λ n. IsTop f n) (inner_at edges i low) (shape.tops.inner_tops i (omega (arith, low, length-inners edges)))

  -- an outer top is a top
  pub outer_top : (i : ℕ) → i < length edges → IsTop f (tree_edge_at edges i).outer
  outer_top i low = subst (λ n. IsTop f n) (outer_at r edges i low) (shape.tops.outer_tops (suc i) (omega (arith, low, length-outers r edges)))

  -- the outer tops are different names
  pub edge_room : length edges < length f.nodes
  edge_room = omega (
    arith,
    length-outers r edges,
    short (outers r edges) (length f.nodes) shape.tops.outer_differ (λ i low. name_bound f (get_or (outers r edges) i 0) (shape.tops.outer_tops i low).alive),
  )

  module _ (fam : IsFamily f) (i : ℕ) (low : i < length edges) where
    -- a tree edge leads up from a leaf
    pub up_leaf : (tree_edge_at edges i).up.from < leaf_count f
    up_leaf = leaf_bound f fam (tree_edge_at edges i).inner (tree_edge_at edges i).up.from (shape.up_from i low)

    -- the pair of an inner top leads to a leaf
    pub pair_leaf : (tree_edge_at edges i).pair.to < leaf_count f
    pair_leaf = leaf_bound f fam (tree_edge_at edges i).outer (tree_edge_at edges i).pair.to ((shape.edge i low).pair_to)

-- no top of the tree holds a leaf of a top outside it
pub out_holds : (f : Family) → IsFamily f → (r : ℕ) (edges : List TreeEdge) →
    ((i : ℕ) → i < length (outers r edges) → IsTop f (get_or (outers r edges) i 0)) →
    ((i : ℕ) → i < length (inners edges) → IsTop f (get_or (inners edges) i 0)) → (t l : ℕ) → IsTop f t → Holds f t l → IsOut r edges t
    → ((j : ℕ) → j < length (outers r edges) → Holds f (get_or (outers r edges) j 0) l → ⊥) ×
    ((j : ℕ) → j < length (inners edges) → Holds f (get_or (inners edges) j 0) l → ⊥)
out_holds f fam r edges outer_tops inner_tops t l top held out = (
  (λ j low h. out.outer j low (top-apart f fam (get_or (outers r edges) j 0) t l (outer_tops j low) top h held)),
  (λ j low h. out.inner j low (top-apart f fam (get_or (inners edges) j 0) t l (inner_tops j low) top h held)),
)

-- an outer top is the root or a tree edge's
pub outer_cases : (r : ℕ) (edges : List TreeEdge) (i : ℕ) → i < length (outers r edges) → ((i ≡ 0) × (get_or (outers r edges) i 0 ≡ r)) ⊎
    ((j : ℕ) × (j < length edges) × (i ≡ suc j) × (get_or (outers r edges) i 0 ≡ (tree_edge_at edges j).outer))
outer_cases r edges zero low = inl (refl, refl)
outer_cases r edges (suc j) low = let within : j < length edges = omega (arith, low, length-outers r edges) in inr (j, within, refl, outer_at r edges j within)

module _ (f : Family) (cost : ℕ → ℕ → ℕ) (pairs : List (Option Edge)) (r : ℕ) (edges : List TreeEdge) (fam : IsFamily f)
    (paired : IsPaired f (IsTight f cost) pairs) (tree : IsTree f cost pairs r edges) where
  -- the pairs in the tree are tight
  pub pair_tight : (i : ℕ) → i < length edges → IsTight f cost (tree_edge_at edges i).pair.from (tree_edge_at edges i).pair.to
  pair_tight i low = paired.tight (tree_edge_at edges i).inner (tree_edge_at edges i).pair (inner_top f r edges tree.shape i low) (tree.pair i low)

  -- an outer top has the pair of its inner top, the other way round
  pub outer_pair : (i : ℕ) → i < length edges → pair_of pairs (tree_edge_at edges i).outer ≡ Some (flipped (tree_edge_at edges i).pair)
  outer_pair i low = mate_is f (IsTight f cost) pairs fam paired (tree_edge_at edges i).inner (tree_edge_at edges i).outer (tree_edge_at edges i).pair
      (inner_top f r edges tree.shape i low) (outer_top f r edges tree.shape i low) (tree.pair i low) ((tree.shape.edge i low).pair_to)

  -- the mate of a top outside the tree is outside it
  pub mate_out : (t s : ℕ) (p : Edge) → IsTop f t → IsTop f s → pair_of pairs t ≡ Some p → Holds f s p.to → IsOut r edges t → IsOut r edges s
  mate_out t s p top_t top_s is held out =
      let back : pair_of pairs s ≡ Some (flipped p) = mate_is f (IsTight f cost) pairs fam paired t s p top_t top_s is held in
      record {
        outer = λ i low same. elim (outer_cases r edges i low) [
          | inl root ↦ absurd (none-some _ (sym tree.exposed_root ∙ ap (λ n. pair_of pairs n) (sym root.1 ∙ same) ∙ back))
          | inr at ↦
              let e : p ≡ (tree_edge_at edges at.0).pair = unflip (sym back ∙ ap (λ n. pair_of pairs n) (sym same ∙ at.3) ∙ outer_pair at.0 at.1) in
              let t_is : (tree_edge_at edges at.0).inner ≡ t = top-apart f fam (tree_edge_at edges at.0).inner t p.from
              (inner_top f r edges tree.shape at.0 at.1) top_t
              (subst (λ x. Holds f (tree_edge_at edges at.0).inner x.from) (sym e) ((tree.shape.edge at.0 at.1).pair_from)) (paired.own t p top_t is) in
              absurd (out.inner at.0 (omega (arith, at.1, length-inners edges)) (inner_at edges at.0 at.1 ∙ t_is))
        ];
        inner = λ i low same.
            let within : i < length edges = omega (arith, low, length-inners edges) in
            let e : flipped p ≡ (tree_edge_at edges i).pair =
            same_Some _ _ (sym back ∙ ap (λ n. pair_of pairs n) (sym same ∙ inner_at edges i within) ∙ tree.pair i within) in
            let t_is : (tree_edge_at edges i).outer ≡ t = top-apart f fam (tree_edge_at edges i).outer t p.from (outer_top f r edges tree.shape i within) top_t
            (subst (λ x. Holds f (tree_edge_at edges i).outer x.to) (sym e) ((tree.shape.edge i within).pair_to)) (paired.own t p top_t is) in
            absurd (out.outer (suc i) (omega (arith, within, length-outers r edges)) (outer_at r edges i within ∙ t_is));
      }
    where
      unflip : {x y : Edge} → ◌≡◌ {A = Option Edge} (Some (flipped x)) (Some (flipped y)) → x ≡ y
      unflip {x} {y} e = ap flipped (same_Some _ _ e)
