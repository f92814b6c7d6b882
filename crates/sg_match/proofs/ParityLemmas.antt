-- The leaves of all outer tops have totals of one parity.
use Rattle.std.proofs.Common.{◌≡◌, ◌≢◌, ℕ, zero, suc, ◌<◌, ◌%◌, List, length, get_or, Option, sym, ◌∙◌, subst, arith}
use Rattle.sg_arena.proofs.DualLemmas.{between-tops}
use Rattle.sg_arena.proofs.FamilyLemmas.{leaf_bound}
use Rattle.sg_arena.specs.Family.{Family, Holds, IsFamily, IsTop, leaf_count, total_of}
use Rattle.sg_match.proofs.TreeLemmas.{pair_tight, inner_at, inner_top, length-inners, length-outers, outer_at, outer_top}
use Rattle.sg_match.specs.Feasible.{IsFeasible}
use Rattle.sg_slack.specs.Tight.{IsTight}
use Rattle.sg_match.specs.Pairs.{IsPaired}
use Rattle.sg_match.specs.Tree.{IsTree, inners, tree_edge_at, outers}
use Rattle.sg_match.specs.declared.Edge.{Edge}
use Rattle.sg_match.specs.declared.TreeEdge.{TreeEdge}

module _ (f : Family) (cost : ℕ → ℕ → ℕ) (pairs : List (Option Edge)) (r : ℕ) (edges : List TreeEdge) (feasible : IsFeasible f cost)
    (paired : IsPaired f (IsTight f cost) pairs) (tree : IsTree f cost pairs r edges)
    (even : (u v : ℕ) → u < leaf_count f → v < leaf_count f → cost u v % 2 ≡ 0) where
  abbrev fam : IsFamily f
  fam = feasible.family

  -- a tight pair of two tops
  across : (s t u v : ℕ) → IsTop f s → IsTop f t → s ≢ t → Holds f s u → Holds f t v → IsTight f cost u v → total_of f u % 2 ≡ total_of f v % 2
  across s t u v top_s top_t differ in_s in_t tight =
      omega (arith, between-tops f fam s t u v top_s top_t differ in_s in_t, tight, even u v (leaf_bound f fam s u in_s) (leaf_bound f fam t v in_t))

  to_root : (n i w : ℕ) → Holds f r w → i < n → i < length (outers r edges) → (u : ℕ) → Holds f (get_or (outers r edges) i 0) u →
      total_of f u % 2 ≡ total_of f w % 2
  to_root zero i w in_w fuel low u held = absurd (omega (arith, fuel))
  to_root (suc n) zero w in_w fuel low u held = feasible.parity r u w (tree.shape.tops.outer_tops 0 low) held in_w
  to_root (suc n) (suc m) w in_w fuel low u held =
      let within : m < length edges = omega (arith, low, length-outers r edges) in
      let l = tree_edge_at edges m in
      let up = (tree.shape.edge m within).up_to in
      let low_up : up.0 < length (outers r edges) = omega (arith, up.1, low) in
      let above = to_root n up.0 w in_w (omega (arith, up.1, fuel)) low_up l.up.to up.2 in
      let top_in = inner_top f r edges tree.shape m within in
      let top_out = outer_top f r edges tree.shape m within in
      let low_in : m < length (inners edges) = omega (arith, within, length-inners edges) in
      let apart_up : l.inner ≢ get_or (outers r edges) up.0 0 = λ e. tree.shape.tops.apart up.0 m low_up low_in (sym e ∙ sym (inner_at edges m within)) in
      let apart_out : l.inner ≢ l.outer = λ e. tree.shape.tops.apart (suc m) m low low_in
      (outer_at r edges m within ∙ sym e ∙ sym (inner_at edges m within)) in
      let from = (tree.shape.edge m within).pair_from in
      let edge_up = across l.inner (get_or (outers r edges) up.0 0) l.up.from l.up.to top_in (tree.shape.tops.outer_tops up.0 low_up) apart_up
      (tree.shape.up_from m within) up.2 (tree.up_tight m within) in
      let inside = feasible.parity l.inner l.pair.from l.up.from top_in from (tree.shape.up_from m within) in
      let pair = across l.inner l.outer l.pair.from l.pair.to top_in top_out apart_out from ((tree.shape.edge m within).pair_to)
      (pair_tight f cost pairs r edges fam paired tree m within) in
      let last = feasible.parity l.outer u l.pair.to top_out (subst (λ k. Holds f k u) (outer_at r edges m within) held)
      ((tree.shape.edge m within).pair_to) in
      last ∙ sym pair ∙ inside ∙ edge_up ∙ above

  -- the totals of two outer leaves have one parity
  pub tree_parity : (i j u v w : ℕ) → Holds f r w → i < length (outers r edges) → j < length (outers r edges) → Holds f (get_or (outers r edges) i 0) u →
      Holds f (get_or (outers r edges) j 0) v → total_of f u % 2 ≡ total_of f v % 2
  tree_parity i j u v w in_w low_i low_j in_u in_v =
      to_root (suc i) i w in_w (omega arith) low_i u in_u ∙ sym (to_root (suc j) j w in_w (omega arith) low_j v in_v)
