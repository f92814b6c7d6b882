-- A tree edge more at the end of the tree.
use Rattle.std.proofs.Common.{◌≡◌, ◌≢◌, ℕ, suc, ◌<◌, List, [], ◌∷◌, ◌++◌, length, get_or, Option, None, Some, sym, ap, ◌∙◌, subst, inl, inr, arith, length-append}
use Rattle.std.proofs.lemmas.List.{get_or_append_left, map-append}
use Rattle.sg_arena.specs.Family.{Family, Holds, IsTop}
use Rattle.sg_slack.proofs.DistinctLemmas.{at_end}
use Rattle.sg_match.proofs.NameLemmas.{Differ-last}
use Rattle.sg_match.proofs.TreeLemmas.{length-outers, outer_at}
use Rattle.sg_slack.specs.Tight.{IsTight}
use Rattle.sg_base.specs.Sets.{Differ}
use Rattle.sg_match.specs.Pairs.{pair_of}
use Rattle.sg_match.specs.Tree.{IsOut, IsOuterLeaf, IsTree, blank_tree_edge, inners, tree_edge_at, outers}
use Rattle.sg_match.specs.declared.Edge.{Edge}
use Rattle.sg_match.specs.declared.TreeEdge.{TreeEdge}

-- an unpaired top alone is a tree
pub IsTree-root : (f : Family) (cost : ℕ → ℕ → ℕ) (pairs : List (Option Edge)) (root : ℕ) → IsTop f root → pair_of pairs root ≡ None →
    IsTree f cost pairs root []
IsTree-root f cost pairs root root_top root_free =
    record {
      shape = record { tops = grind (arith, only, root_top); edge = λ i low. absurd (omega (arith, low)); up_from = λ i low. absurd (omega (arith, low)) };
      exposed_root = root_free;
      pair = λ i low. absurd (omega (arith, low));
      up_tight = λ i low. absurd (omega (arith, low));
    }
  where
    only : (P : ℕ → Type 0) → P root → (i : ℕ) → i < length (root ∷ []) → P (get_or (root ∷ []) i 0)
    only P p i low = grind arith

module _ (root : ℕ) (edges : List TreeEdge) (tree_edge : TreeEdge) where
  abbrev more : List TreeEdge
  more = edges ++ tree_edge ∷ []

  outers_are : outers root more ≡ outers root edges ++ tree_edge.outer ∷ []
  outers_are = ap (λ xs. root ∷ xs) (map-append (λ (l : TreeEdge). l.outer) edges (tree_edge ∷ []))

  inners_are : inners more ≡ inners edges ++ tree_edge.inner ∷ []
  inners_are = map-append (λ (l : TreeEdge). l.inner) edges (tree_edge ∷ [])

  all_more : (P : ℕ → Type 0) (xs ys : List ℕ) (y : ℕ) → ys ≡ xs ++ y ∷ [] → ((i : ℕ) → i < length xs → P (get_or xs i 0)) → P y → (i : ℕ) →
      i < length ys → P (get_or ys i 0)
  all_more P xs ys y made old new i low = grind (arith, at_end, made, low, old, new)

  -- what holds of each outer top
  pub outers_more : (P : ℕ → Type 0) → ((i : ℕ) → i < length (outers root edges) → P (get_or (outers root edges) i 0)) → P tree_edge.outer → (i : ℕ) →
      i < length (outers root more) → P (get_or (outers root more) i 0)
  outers_more P = all_more P (outers root edges) (outers root more) tree_edge.outer outers_are

  -- what holds of each inner top
  pub inners_more : (P : ℕ → Type 0) → ((i : ℕ) → i < length (inners edges) → P (get_or (inners edges) i 0)) → P tree_edge.inner → (i : ℕ) →
      i < length (inners more) → P (get_or (inners more) i 0)
  inners_more P = all_more P (inners edges) (inners more) tree_edge.inner inners_are

  outer_low : (j : ℕ) → j < length (outers root edges) → j < length (outers root more)
  outer_low j low = omega (arith, low, length-outers root edges, length-outers root more, length-append edges (tree_edge ∷ []))

  outer_old : (j : ℕ) → j < length (outers root edges) → get_or (outers root more) j 0 ≡ get_or (outers root edges) j 0
  outer_old j low = grind (arith, outers_are, get_or_append_left, tree_edge.outer, low)

  -- an outer leaf stays one
  pub outer_leaf_more : (f : Family) (l : ℕ) → IsOuterLeaf f root edges l → IsOuterLeaf f root more l
  outer_leaf_more f l at = (at.0, outer_low at.0 at.1, subst (λ n. Holds f n l) (sym (outer_old at.0 at.1)) at.2)

  -- the leaves of the new outer top are outer leaves
  pub outer_leaf_last : (f : Family) (l : ℕ) → Holds f tree_edge.outer l → IsOuterLeaf f root more l
  outer_leaf_last f l held = (
    suc (length edges),
    omega (arith, length-outers root more, length-append edges (tree_edge ∷ [])),
    subst (λ n. Holds f n l) (sym (outer_at root more (length edges) (omega (arith, length-append edges (tree_edge ∷ []))) ∙ ap (λ x. x.outer) last)) held,
  )
    where
      last : tree_edge_at more (length edges) ≡ tree_edge
      last = grind (arith, at_end, length-append)

  module _ (f : Family) (cost : ℕ → ℕ → ℕ) (pairs : List (Option Edge)) (tree : IsTree f cost pairs root edges) (out_in : IsOut root edges tree_edge.inner)
      (out_out : IsOut root edges tree_edge.outer) (top_in : IsTop f tree_edge.inner) (top_out : IsTop f tree_edge.outer)
      (differ : tree_edge.outer ≢ tree_edge.inner) (has_pair : pair_of pairs tree_edge.inner ≡ Some tree_edge.pair)
      (pair_from : Holds f tree_edge.inner tree_edge.pair.from) (pair_to : Holds f tree_edge.outer tree_edge.pair.to)
      (up_from : Holds f tree_edge.inner tree_edge.up.from) (up_to : IsOuterLeaf f root edges tree_edge.up.to)
      (tight : IsTight f cost tree_edge.up.from tree_edge.up.to) where
    each : (P : TreeEdge → Type 0) → ((i : ℕ) → i < length edges → P (tree_edge_at edges i)) → P tree_edge → (i : ℕ) → i < length more → P (tree_edge_at more i)
    each P old new i low = grind (arith, at_end, low, old, new)

    -- a tight edge to a pair outside makes the tree longer by it
    pub IsTree-grown : IsTree f cost pairs root more
    IsTree-grown =
        record {
          shape = record {
            tops = record {
              outer_tops = outers_more (λ n. IsTop f n) tree.shape.tops.outer_tops top_out;
              inner_tops = inners_more (λ n. IsTop f n) tree.shape.tops.inner_tops top_in;
              outer_differ = subst (λ xs. Differ xs) (sym outers_are)
                  (Differ-last (outers root edges) tree_edge.outer tree.shape.tops.outer_differ out_out.outer);
              inner_differ = subst (λ xs. Differ xs) (sym inners_are) (Differ-last (inners edges) tree_edge.inner tree.shape.tops.inner_differ out_in.inner);
              apart = λ i j low_i low_j.
                  outers_more (λ n. n ≢ get_or (inners more) j 0)
                  (λ i low_i. inners_more (λ n. get_or (outers root edges) i 0 ≢ n) (λ j low_j. tree.shape.tops.apart i j low_i low_j) (out_in.outer i low_i)
                  j low_j)
                  (inners_more (λ n. tree_edge.outer ≢ n) (λ j low_j same. out_out.inner j low_j (sym same)) differ j low_j) i low_i;
            };
            edge = λ i low. record {
              pair_from = each (λ l. Holds f l.inner l.pair.from) (λ i low. (tree.shape.edge i low).pair_from) pair_from i low;
              pair_to = each (λ l. Holds f l.outer l.pair.to) (λ i low. (tree.shape.edge i low).pair_to) pair_to i low;
              up_to = elim (at_end edges tree_edge blank_tree_edge i low) [
                | inl at ↦
                    let old = (tree.shape.edge i at.0).up_to in (
                      old.0,
                      old.1,
                      subst (λ (l : TreeEdge). Holds f (get_or (outers root more) old.0 0) l.up.to) (sym at.1)
                          (subst (λ n. Holds f n (tree_edge_at edges i).up.to)
                          (sym (outer_old old.0 (omega (arith, old.1, at.0, length-outers root edges)))) old.2),
                    )
                | inr at ↦ (
                  up_to.0,
                  omega (arith, up_to.1, at.0, length-outers root edges),
                  subst (λ (l : TreeEdge). Holds f (get_or (outers root more) up_to.0 0) l.up.to) (sym at.1)
                      (subst (λ n. Holds f n tree_edge.up.to) (sym (outer_old up_to.0 up_to.1)) up_to.2),
                )
              ];
            };
            up_from = each (λ l. Holds f l.inner l.up.from) tree.shape.up_from up_from;
          };
          exposed_root = tree.exposed_root;
          pair = each (λ l. pair_of pairs l.inner ≡ Some l.pair) tree.pair has_pair;
          up_tight = each (λ l. IsTight f cost l.up.from l.up.to) tree.up_tight tight;
        }
