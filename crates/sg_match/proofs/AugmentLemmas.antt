-- One tree edge of the way to the root, turned over.
use Rattle.std.proofs.Common.{◌≡◌, ◌≢◌, ℕ, suc, ◌+◌, ◌<◌, ◌≤◌, List, length, Option, Some, None, get_or, set, sym, ap, ◌∙◌, subst, ◌⊎◌, inl, inr, arith}
use Rattle.std.proofs.lemmas.Option.{none-some}
use Rattle.std.proofs.lemmas.Bool.{cases_eq}
use Rattle.std.proofs.Math.ListN.{length-set}
use Rattle.sg_arena.proofs.FamilyLemmas.{leaf_bound, top-apart}
use Rattle.sg_arena.specs.Family.{Family, Holds, IsFamily, IsTop}
use Rattle.sg_match.proofs.PairLemmas.{IsPaired-unpair_tops, IsPaired-pair_tops, twice_first, twice_other, twice_second}
use Rattle.sg_slack.proofs.TightLemmas.{tight-back}
use Rattle.sg_match.proofs.TreeLemmas.{inner_at, inner_top, length-inners, length-outers, outer_at, outer_pair, outer_top}
use Rattle.sg_match.specs.Augmented.{CanAugment, IsAugmented}
use Rattle.sg_slack.specs.Tight.{IsTight}
use Rattle.sg_match.specs.Pairs.{IsPaired, flipped, pair_of}
use Rattle.sg_match.specs.Tree.{inners, tree_edge_at, outers}
use Rattle.sg_match.specs.declared.Edge.{Edge}
use Rattle.sg_match.specs.declared.TreeEdge.{TreeEdge}

-- the pairing on the way: `here` is an outer top that is still paired as the tree says, `there` an
-- unpaired top, and a tight edge joins them
pub record IsAugmenting (f : Family) (cost : ℕ → ℕ → ℕ) (old now : List (Option Edge)) (root : ℕ) (edges : List TreeEdge) (v i here there : ℕ)
    (edge : Edge) : Type 0 where
  pub paired : IsPaired f (IsTight f cost) now
  pub place : ℕ
  pub low : place ≤ i
  pub at : get_or (outers root edges) place 0 ≡ here
  pub exposed : pair_of now there ≡ None
  pub fresh : Holds f there v ⊎ (pair_of old there ≡ None → ⊥)
  pub out_outer : (j : ℕ) → j ≤ i → get_or (outers root edges) j 0 ≢ there
  pub out_inner : (j : ℕ) → j < i → get_or (inners edges) j 0 ≢ there
  pub from : Holds f here edge.from
  pub to : Holds f there edge.to
  pub tight : IsTight f cost edge.from edge.to
  pub same_outer : (j : ℕ) → j ≤ i → pair_of now (get_or (outers root edges) j 0) ≡ pair_of old (get_or (outers root edges) j 0)
  pub same_inner : (j : ℕ) → j < i → pair_of now (get_or (inners edges) j 0) ≡ pair_of old (get_or (inners edges) j 0)
  pub fewer : (n : ℕ) → pair_of now n ≡ None → (n ≡ there) ⊎ ((pair_of old n ≡ None) × ((IsTop f n × Holds f n v) → ⊥))
  pub others : (n : ℕ) → IsTop f n → pair_of old n ≡ None → (Holds f n v → ⊥) → pair_of now n ≡ None

module _ (f : Family) (cost : ℕ → ℕ → ℕ) (old now : List (Option Edge)) (root : ℕ) (edges : List TreeEdge) (u v : ℕ) (fam : IsFamily f)
    (can : CanAugment f cost old root edges u v) (names : (t : ℕ) → IsTop f t → t < length now) where
  -- before the first tree edge
  pub IsAugmenting-init : now ≡ old → (here there : ℕ) → IsTop f here → IsTop f there → Holds f here u → Holds f there v →
      IsAugmenting f cost old now root edges v (length edges) here there (record { from = u; to = v })
  IsAugmenting-init same here there top_here top_there in_here in_there =
      let out = can.exposed there top_there in_there in
      let at = can.outer in
      record {
        paired = subst (λ p. IsPaired f (IsTight f cost) p) (sym same) can.paired;
        place = at.0;
        low = omega (arith, at.1, length-outers root edges);
        at = top-apart f fam (get_or (outers root edges) at.0 0) here u (can.tree.shape.tops.outer_tops at.0 at.1) top_here at.2 in_here;
        exposed = ap (λ p. pair_of p there) same ∙ out.1;
        fresh = inl in_there;
        out_outer = λ j low. out.0.outer j (omega (arith, low, length-outers root edges));
        out_inner = λ j low. out.0.inner j (omega (arith, low, length-inners edges));
        from = in_here;
        to = in_there;
        tight = can.tight;
        same_outer = λ j low. ap (λ p. pair_of p (get_or (outers root edges) j 0)) same;
        same_inner = λ j low. ap (λ p. pair_of p (get_or (inners edges) j 0)) same;
        fewer = λ n none. elim (cases_eq n there) [
          | inl here ↦ inl here
          | inr away ↦ grind (arith, top-apart, in_there, same, top_there)
        ];
        others = λ n top none away. ap (λ p. pair_of p n) same ∙ none;
      }

  -- past a tree edge that isn't on the way
  pub IsAugmenting-skip : (i here there : ℕ) (edge : Edge) → i < length edges → (tree_edge_at edges i).outer ≢ here →
      IsAugmenting f cost old now root edges v (i + 1) here there edge → IsAugmenting f cost old now root edges v i here there edge
  IsAugmenting-skip i here there edge within differs is =
      record {
        paired = is.paired;
        place = is.place;
        low = elim (cases_eq is.place (suc i)) [
          | inl last ↦ absurd (differs (sym (outer_at root edges i within) ∙ ap (λ j. get_or (outers root edges) j 0) (sym last) ∙ is.at))
          | inr below ↦ omega (arith, is.low, below)
        ];
        at = is.at;
        exposed = is.exposed;
        fresh = is.fresh;
        out_outer = λ j low. is.out_outer j (omega (arith, low));
        out_inner = λ j low. is.out_inner j (omega (arith, low));
        from = is.from;
        to = is.to;
        tight = is.tight;
        same_outer = λ j low. is.same_outer j (omega (arith, low));
        same_inner = λ j low. is.same_inner j (omega (arith, low));
        fewer = is.fewer;
        others = is.others;
      }

  -- past a tree edge on the way
  module _ (i here there : ℕ) (edge : Edge) (within : i < length edges) (same : (tree_edge_at edges i).outer ≡ here) (top_there : IsTop f there)
      (is : IsAugmenting f cost old now root edges v (i + 1) here there edge) where
    abbrev tree_edge : TreeEdge
    tree_edge = tree_edge_at edges i

    abbrev unpaired_now : List (Option Edge)
    unpaired_now = set (set now tree_edge.inner None) tree_edge.outer None

    abbrev paired_now : List (Option Edge)
    paired_now = set (set unpaired_now tree_edge.outer (Some edge)) there (Some (flipped edge))

    top_in : IsTop f tree_edge.inner
    top_in = inner_top f root edges can.tree.shape i within

    top_out : IsTop f tree_edge.outer
    top_out = outer_top f root edges can.tree.shape i within

    low_in : i < length (inners edges)
    low_in = omega (arith, within, length-inners edges)

    low_out : suc i < length (outers root edges)
    low_out = omega (arith, within, length-outers root edges)

    count : length unpaired_now ≡ length now
    count = grind (arith, length-set, tree_edge.inner, tree_edge.outer)

    in_out : tree_edge.inner ≢ tree_edge.outer
    in_out e = can.tree.shape.tops.apart (suc i) i low_out low_in (outer_at root edges i within ∙ sym e ∙ sym (inner_at edges i within))

    out_there : tree_edge.outer ≢ there
    out_there e = is.out_outer (suc i) (omega arith) (outer_at root edges i within ∙ e)

    in_there : tree_edge.inner ≢ there
    in_there e = is.out_inner i (omega arith) (inner_at edges i within ∙ e)

    has_pair : pair_of now tree_edge.inner ≡ Some tree_edge.pair
    has_pair = ap (λ n. pair_of now n) (sym (inner_at edges i within)) ∙ is.same_inner i (omega arith) ∙ ap (λ n. pair_of old n) (inner_at edges i within) ∙
        can.tree.pair i within

    is_unpaired_now : IsPaired f (IsTight f cost) unpaired_now
    is_unpaired_now = IsPaired-unpair_tops f (IsTight f cost) now fam is.paired tree_edge.inner tree_edge.outer top_in top_out
        (names tree_edge.inner top_in) (names tree_edge.outer top_out) tree_edge.pair has_pair ((can.tree.shape.edge i within).pair_to)

    from_out : Holds f tree_edge.outer edge.from
    from_out = subst (λ n. Holds f n edge.from) (sym same) is.from

    is_paired_now : IsPaired f (IsTight f cost) paired_now
    is_paired_now =
        IsPaired-pair_tops f (IsTight f cost) unpaired_now fam is_unpaired_now tree_edge.outer there top_out top_there
        (omega (arith, names tree_edge.outer top_out, count)) (omega (arith, names there top_there, count)) edge out_there
        (twice_second now tree_edge.inner tree_edge.outer None None (names tree_edge.outer top_out))
        (twice_other now tree_edge.inner tree_edge.outer there None None (λ e. in_there (sym e)) (λ e. out_there (sym e)) ∙ is.exposed)
        from_out is.to is.tight
        (tight-back f cost edge.from edge.to
        (can.symmetric edge.from edge.to (leaf_bound f fam tree_edge.outer edge.from from_out) (leaf_bound f fam there edge.to is.to)) is.tight)

    -- a name that was not written
    kept : (n : ℕ) → n ≢ tree_edge.inner → n ≢ tree_edge.outer → n ≢ there → pair_of paired_now n ≡ pair_of now n
    kept n a b c = simp (twice_other)

    new_exposed : pair_of paired_now tree_edge.inner ≡ None
    new_exposed = simp (twice_other, in_out, in_there, twice_first, top_in)

    -- one tree edge is turned over: the way goes on from its inner top
    pub IsAugmenting-turn : (next : ℕ) → IsTop f next → Holds f next tree_edge.up.to →
        IsAugmenting f cost old paired_now root edges v i next tree_edge.inner (flipped tree_edge.up)
    IsAugmenting-turn next top_next in_next =
        let up = (can.tree.shape.edge i within).up_to in
        let low_up : up.0 < length (outers root edges) = omega (arith, up.1, within, length-outers root edges) in
        record {
          paired = is_paired_now;
          place = up.0;
          low = up.1;
          at = top-apart f fam (get_or (outers root edges) up.0 0) next tree_edge.up.to (can.tree.shape.tops.outer_tops up.0 low_up) top_next up.2 in_next;
          exposed = new_exposed;
          fresh = inr (λ none. none-some _ (sym (sym (can.tree.pair i within) ∙ none)));
          out_outer = λ j low e. can.tree.shape.tops.apart j i (omega (arith, low, within, length-outers root edges)) low_in
              (e ∙ sym (inner_at edges i within));
          out_inner = λ j low e. absurd (omega
              (arith, low, can.tree.shape.tops.inner_differ j i (omega (arith, low, low_in)) low_in (e ∙ sym (inner_at edges i within))));
          from = in_next;
          to = can.tree.shape.up_from i within;
          tight = tight-back f cost tree_edge.up.from tree_edge.up.to
              (can.symmetric tree_edge.up.from tree_edge.up.to (leaf_bound f fam tree_edge.inner tree_edge.up.from (can.tree.shape.up_from i within))
              (leaf_bound f fam next tree_edge.up.to in_next)) (can.tree.up_tight i within);
          same_outer = λ j low.
              kept (get_or (outers root edges) j 0)
              (λ e. can.tree.shape.tops.apart j i (omega (arith, low, within, length-outers root edges)) low_in (e ∙ sym (inner_at edges i within)))
              (λ e. absurd (omega (
                arith,
                low,
                can.tree.shape.tops.outer_differ j (suc i) (omega (arith, low, within, length-outers root edges)) low_out
                    (e ∙ sym (outer_at root edges i within)),
              )))
              (is.out_outer j (omega (arith, low)))
              ∙ is.same_outer j (omega (arith, low));
          same_inner = λ j low.
              kept (get_or (inners edges) j 0)
              (λ e. absurd (omega (arith, low, can.tree.shape.tops.inner_differ j i (omega (arith, low, low_in)) low_in (e ∙ sym (inner_at edges i within)))))
              (λ e. can.tree.shape.tops.apart (suc i) j low_out (omega (arith, low, low_in)) (outer_at root edges i within ∙ sym e))
              (is.out_inner j (omega (arith, low)))
              ∙ is.same_inner j (omega (arith, low));
          fewer = λ n none. elim (cases_eq n tree_edge.inner) [
            | inl here ↦ inl here
            | inr a ↦ elim (cases_eq n there) [
              | inl at ↦ absurd (none-some _ (sym
                  (sym (twice_second unpaired_now tree_edge.outer there (Some edge) (Some (flipped edge)) (omega (arith, names there top_there, count))) ∙
                  ap (λ m. pair_of paired_now m) (sym at) ∙ none)))
              | inr c ↦ grind (arith, cases_eq, none-some, twice_first, top_out, count, out_there, kept, tree_edge.outer, is.fewer)
            ]
          ];
          others = grind (arith, kept, none-some, has_pair, out_paired, is.others, is.fresh);
        }
      where
        out_paired : pair_of now tree_edge.outer ≡ Some (flipped tree_edge.pair)
        out_paired = grind (arith, outer_at, outer_pair)

  -- at the root
  module _ (here there : ℕ) (edge : Edge) (top_there : IsTop f there) (is : IsAugmenting f cost old now root edges v 0 here there edge) where
    abbrev done : List (Option Edge)
    done = set (set now root (Some edge)) there (Some (flipped edge))

    root_top : IsTop f root
    root_top = can.tree.shape.tops.outer_tops 0 (omega (arith, length-outers root edges))

    here_root : root ≡ here
    here_root = grind (arith, is.place, is.low, is.at)

    apart : root ≢ there
    apart e = is.out_outer 0 (omega arith) e

    exposed_root : pair_of now root ≡ None
    exposed_root = is.same_outer 0 (omega arith) ∙ can.tree.exposed_root

    in_root : Holds f root edge.from
    in_root = subst (λ n. Holds f n edge.from) (sym here_root) is.from

    -- at the root the pairing is augmented
    pub IsAugmented-done : length now ≡ length old → IsAugmented f cost old done root v
    IsAugmented-done count =
        record {
          length = length-set (set now root (Some edge)) there (Some (flipped edge)) ∙ length-set now root (Some edge) ∙ count;
          paired = IsPaired-pair_tops f (IsTight f cost) now fam is.paired root there root_top top_there (names root root_top)
              (names there top_there) edge apart exposed_root is.exposed in_root is.to is.tight
              (tight-back f cost edge.from edge.to
              (can.symmetric edge.from edge.to (leaf_bound f fam root edge.from in_root) (leaf_bound f fam there edge.to is.to)) is.tight);
          fewer = λ n none. elim (cases_eq n there) [
            | inl at ↦ absurd (none-some _ (sym
                (sym (twice_second now root there (Some edge) (Some (flipped edge)) (names there top_there)) ∙ ap (λ m. pair_of done m) (sym at) ∙ none)))
            | inr a ↦ grind (arith, cases_eq, none-some, twice_first, root_top, apart, twice_other, is.fewer)
          ];
          others = grind (arith, twice_other, is.fresh, is.others);
        }
