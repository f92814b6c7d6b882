-- A raise of the tree's tops keeps the engine's invariant.
use Rattle.std.proofs.Common.{◌≡◌, ◌≢◌, ℕ, suc, ◌+◌, ◌-◌, ◌<◌, ◌≤◌, ◌%◌, ◌^◌, List, length, get_or, Option, Some, refl, sym, ap, ◌∙◌, subst, inl, inr, arith}
use Rattle.std.proofs.lemmas.Option.{none-some, same_Some}
use Rattle.std.proofs.lemmas.List.{get_or_default}
use Rattle.std.proofs.lemmas.Bool.{cases_eq, cases_lt}
use Rattle.sg_arena.proofs.DualLemmas.{between-tops, duals_between-back, inner-leaf_enough}
use Rattle.sg_arena.proofs.FamilyLemmas.{after_within, child-covered, leaf_bound, top-covers}
use Rattle.sg_base.proofs.ListLaws.{cases_in}
use Rattle.sg_arena.proofs.RaisedFamily.{IsFamily-raised, IsTop-raised, IsTop-raised_old, between-raised_same, cycle-raised, leaves-raised, total-raised_is}
use Rattle.sg_arena.specs.Changes.{CanRaise, raised, raised_dual}
use Rattle.sg_arena.specs.Family.{Family, Holds, IsBlossom, IsFamily, IsTop, after_index, cycle_of, dual_of, has_leaf, holds, leaf_count, link_at, total_of}
use Rattle.sg_arena.specs.Slack.{duals_between}
use Rattle.sg_match.proofs.AboveLemmas.{leaf-only}
use Rattle.sg_match.proofs.TreeLemmas.{pair_tight, inner_at, length-inners, length-outers, mate_out, out_holds, outer_at, outer_cases, outer_pair}
use Rattle.sg_base.specs.Sets.{Stands}
use Rattle.sg_match.specs.DualChange.{CanChangeDuals}
use Rattle.sg_match.specs.Feasible.{IsFeasible}
use Rattle.sg_slack.specs.Tight.{IsTight}
use Rattle.sg_match.specs.Exposed.{IsExposed}
use Rattle.sg_match.specs.Pairs.{IsPaired, flipped, pair_of}
use Rattle.sg_match.specs.Tree.{IsOut, IsTree, inners, tree_edge_at, outers}
use Rattle.sg_match.specs.declared.Edge.{Edge}
use Rattle.sg_match.specs.declared.TreeEdge.{TreeEdge}

module _ (f : Family) (cost : ℕ → ℕ → ℕ) (r : ℕ) (edges : List TreeEdge) (delta : ℕ) (fam : IsFamily f)
    (can : CanRaise f (outers r edges) (inners edges) delta) where
  abbrev outer : List ℕ
  outer = outers r edges

  abbrev inner : List ℕ
  inner = inners edges

  abbrev g : Family
  g = raised f outer inner delta

  -- a raise changes no set
  pub held : (n l : ℕ) → holds g n l ≡ holds f n l
  held n l = ap (λ xs. has_leaf xs l) (leaves-raised f outer inner delta fam can n)

  -- where a top stands
  data Stand (t : ℕ) : Type 0 where
    in_outer : Stands outer t → Stand t
    in_inner : Stands inner t → Stand t
    in_free : IsOut r edges t → Stand t

  stand : (t : ℕ) → Stand t
  stand t =
      elim (cases_in outer t) [
        | inl at ↦ in_outer (at.0, at.1, at.2)
        | inr none ↦ elim (cases_in inner t) [
          | inl at ↦ in_inner (at.0, at.1, at.2)
          | inr away ↦ in_free (record { outer = none.0; inner = away.0 })
        ]
      ]

  outer_top : (t : ℕ) → Stands outer t → IsTop f t
  outer_top t at = subst (λ n. IsTop f n) at.2 (can.tops.outer_tops at.0 at.1)

  inner_top : (t : ℕ) → Stands inner t → IsTop f t
  inner_top t at = subst (λ n. IsTop f n) at.2 (can.tops.inner_tops at.0 at.1)

  -- how the totals of a top's leaves move
  abbrev pub Moves : ℕ → ℕ → ℕ → Type 0
  Moves t up down = (l : ℕ) → Holds f t l → total_of g l + down ≡ total_of f l + up

  -- those of an outer top grow by the amount
  pub outer_moves : (t : ℕ) → Stands outer t → Moves t delta 0
  outer_moves t at l in_t = elim (cases_in outer t) [
    | inl some ↦
        let changed : raised_dual outer inner delta t (dual_of f t) ≡ dual_of f t + delta = rw some.3 refl in
        omega (arith, total-raised_is f outer inner delta fam can t l (outer_top t at) in_t, changed)
    | inr none ↦ absurd (none.0 at.0 at.1 at.2)
  ]

  -- those of an inner top fall by it
  inner_moves : (t : ℕ) → Stands inner t → Moves t 0 delta
  inner_moves t at l in_t = elim (cases_in outer t) [
    | inl clash ↦ absurd (can.tops.apart clash.0 at.0 clash.1 at.1 (clash.2 ∙ sym at.2))
    | inr none ↦ elim (cases_in inner t) [
      | inl some ↦
          let changed : raised_dual outer inner delta t (dual_of f t) ≡ dual_of f t - delta = rw (none.1, some.3) refl in
          omega (arith, total-raised_is f outer inner delta fam can t l (inner_top t at) in_t, changed, can.enough at.0 at.1, ap (λ n. dual_of f n) at.2)
      | inr away ↦ absurd (away.0 at.0 at.1 at.2)
    ]
  ]

  -- those of a top outside the tree stay
  pub free_moves : (t : ℕ) → IsTop f t → IsOut r edges t → Moves t 0 0
  free_moves t top out l in_t = elim (cases_in outer t) [
    | inl clash ↦ absurd (out.outer clash.0 clash.1 clash.2)
    | inr none ↦ elim (cases_in inner t) [
      | inl clash ↦ absurd (out.inner clash.0 clash.1 clash.2)
      | inr away ↦
          let changed : raised_dual outer inner delta t (dual_of f t) ≡ dual_of f t = rw (none.1, away.1) refl in
          omega (arith, total-raised_is f outer inner delta fam can t l top in_t, changed)
    ]
  ]

  any_moves : (t : ℕ) → IsTop f t → Stand t → (up : ℕ) × (down : ℕ) × (up ≤ delta) × Moves t up down
  any_moves t top (in_outer at) = (delta, 0, omega arith, outer_moves t at)
  any_moves t top (in_inner at) = (0, delta, omega arith, inner_moves t at)
  any_moves t top (in_free out) = (0, 0, omega arith, free_moves t top out)

  module _ (s t u v : ℕ) (top_s : IsTop f s) (top_t : IsTop f t) (differ : s ≢ t) (in_s : Holds f s u) (in_t : Holds f t v) where
    -- between two tops the duals move as the totals of both leaves
    pub between_moved : (a b c d : ℕ) → Moves s a b → Moves t c d → duals_between g u v + b + d ≡ duals_between f u v + a + c
    between_moved a b c d moves_s moves_t = omega (
      arith,
      between-tops f fam s t u v top_s top_t differ in_s in_t,
      between-tops g (IsFamily-raised f outer inner delta fam can) s t u v (IsTop-raised f outer inner delta fam can s top_s)
          (IsTop-raised f outer inner delta fam can t top_t) differ (held s u ∙ in_s) (held t v ∙ in_t),
      moves_s u in_s,
      moves_t v in_t,
    )

  -- an edge between an inner and an outer top stays tight, either way round
  tight_tree : (s t u v : ℕ) → Stands inner s → Stands outer t → Holds f s u → Holds f t v →
      (IsTight f cost u v → IsTight g cost u v) × (IsTight f cost v u → IsTight g cost v u)
  tight_tree s t u v at_s at_t in_s in_t = (
    (λ tight. omega (
      arith,
      tight,
      between_moved s t u v (inner_top s at_s) (outer_top t at_t) (λ e. differ e) in_s in_t 0 delta delta 0 (inner_moves s at_s) (outer_moves t at_t),
    )),
    (λ tight. omega (
      arith,
      tight,
      between_moved t s v u (outer_top t at_t) (inner_top s at_s) (λ e. differ (sym e)) in_t in_s delta 0 0 delta (outer_moves t at_t) (inner_moves s at_s),
    )),
  )
    where
      differ : s ≢ t
      differ same = can.tops.apart at_t.0 at_s.0 at_t.1 at_s.1 (at_t.2 ∙ sym same ∙ sym at_s.2)

  -- the totals in one top change alike
  shift_same : (t u v : ℕ) → IsTop f t → Holds f t u → Holds f t v → total_of f u % 2 ≡ total_of f v % 2 → total_of g u % 2 ≡ total_of g v % 2
  shift_same t u v top in_u in_v same =
      omega (arith, total-raised_is f outer inner delta fam can t u top in_u, total-raised_is f outer inner delta fam can t v top in_v, same)

  -- no slack turns negative
  slack-raised : CanChangeDuals f cost r edges delta → ((u v : ℕ) → u < leaf_count f → v < leaf_count f → duals_between f u v ≤ cost u v) →
      ((u v : ℕ) → u < leaf_count f → v < leaf_count f → cost u v ≡ cost v u) → (s t u v : ℕ) → u < leaf_count f → v < leaf_count f → IsTop f s →
      IsTop f t → Holds f s u → Holds f t v → duals_between g u v ≤ cost u v
  slack-raised change slack symmetric s t u v low_u low_v top_s top_t in_s in_t =
      elim (cases_eq s t) [
        | inl same ↦ omega (
          arith,
          between-raised_same f outer inner delta fam can s u v top_s in_s (subst (λ n. Holds f n v) (sym same) in_t),
          slack u v low_u low_v,
        )
        | inr differ ↦ go differ (stand s) (stand t)
      ]
    where
      go : s ≢ t → Stand s → Stand t → duals_between g u v ≤ cost u v
      go differ (in_inner at) other =
          let m = any_moves t top_t other in
          omega (arith, slack u v low_u low_v, m.2, between_moved s t u v top_s top_t differ in_s in_t 0 delta m.0 m.1 (inner_moves s at) m.3)
      go differ (in_outer at) (in_inner also) =
          omega (arith, slack u v low_u low_v, between_moved s t u v top_s top_t differ in_s in_t delta 0 0 delta (outer_moves s at) (inner_moves t also))
      go differ (in_outer at) (in_outer also) = omega (
        arith,
        change.slacks.between u v at.0 also.0 low_u low_v at.1 also.1 (λ e. differ (sym at.2 ∙ ap (λ k. get_or outer k 0) e ∙ also.2))
            (subst (λ n. Holds f n u) (sym at.2) in_s) (subst (λ n. Holds f n v) (sym also.2) in_t),
        between_moved s t u v top_s top_t differ in_s in_t delta 0 delta 0 (outer_moves s at) (outer_moves t also),
      )
      go differ (in_outer at) (in_free out) = omega (
        arith,
        change.slacks.free u v low_u low_v (at.0, at.1, subst (λ n. Holds f n u) (sym at.2) in_s)
            (out_holds f fam r edges can.tops.outer_tops can.tops.inner_tops t v top_t in_t out),
        between_moved s t u v top_s top_t differ in_s in_t delta 0 0 0 (outer_moves s at) (free_moves t top_t out),
      )
      go differ (in_free out) (in_inner at) =
          omega (arith, slack u v low_u low_v, between_moved s t u v top_s top_t differ in_s in_t 0 0 0 delta (free_moves s top_s out) (inner_moves t at))
      go differ (in_free out) (in_outer at) = omega (
        arith,
        symmetric u v low_u low_v,
        duals_between-back f u v,
        change.slacks.free v u low_v low_u (at.0, at.1, subst (λ n. Holds f n v) (sym at.2) in_t)
            (out_holds f fam r edges can.tops.outer_tops can.tops.inner_tops s u top_s in_s out),
        between_moved s t u v top_s top_t differ in_s in_t 0 0 delta 0 (free_moves s top_s out) (outer_moves t at),
      )
      go differ (in_free out) (in_free also) =
          omega (arith, slack u v low_u low_v, between_moved s t u v top_s top_t differ in_s in_t 0 0 0 0 (free_moves s top_s out) (free_moves t top_t also))

  -- parts 1, 2 and 5 after a raise
  pub IsFeasible-raised : IsFeasible f cost → CanChangeDuals f cost r edges delta →
      ((u v : ℕ) → u < leaf_count f → v < leaf_count f → cost u v ≡ cost v u) → ((l : ℕ) → l < leaf_count f → (t : ℕ) × IsTop f t × Holds f t l) →
      IsFeasible g cost
  IsFeasible-raised feasible change symmetric tops =
      record {
        family = IsFamily-raised f outer inner delta fam can;
        slack = λ u v low_u low_v. let s = tops u low_u in let t =
            tops v low_v in slack-raised change feasible.slack symmetric s.0 t.0 u v low_u low_v s.1 t.1 s.2 t.2;
        links = λ name i low. link_tight name i (subst (λ c. i < length c) (cycle-raised f outer inner delta fam can name) low)
            (cycle-raised f outer inner delta fam can name);
        parity = λ t u v top in_u in_v. shift_same t u v (IsTop-raised_old f outer inner delta fam can t top) (sym (held t u) ∙ in_u)
            (sym (held t v) ∙ in_v) (feasible.parity t u v (IsTop-raised_old f outer inner delta fam can t top) (sym (held t u) ∙ in_u)
            (sym (held t v) ∙ in_v));
      }
    where
      link_tight : (name i : ℕ) → i < length (cycle_of f name) → cycle_of g name ≡ cycle_of f name →
          IsTight g cost (link_at (cycle_of g name) i).from (link_at (cycle_of g name) i).to
      link_tight name i low same =
          let c = cycle_of f name in
          let blossom : IsBlossom f name = omega (arith, low) in
          let cyc = fam.cycles name blossom in
          let next = after_index (length c) i in
          let from = child-covered f fam name i low (link_at c i).from (cyc.from i low) in
          let to = child-covered f fam name next (after_within (length c) i low) (link_at c i).to (cyc.to i low) in
          let t = tops (link_at c i).from (leaf_bound f fam name (link_at c i).from from) in
          let also = top-covers f fam t.0 name (link_at c i).from t.1 t.2 from (link_at c i).to to in
          subst (λ x. IsTight g cost (link_at x i).from (link_at x i).to) (sym same)
          (between-raised_same f outer inner delta fam can t.0 (link_at c i).from (link_at c i).to t.1 t.2 also ∙ feasible.links name i low)

  module _ (pairs : List (Option Edge)) (paired : IsPaired f (IsTight f cost) pairs) (tree : IsTree f cost pairs r edges) where
    -- the tree stays one
    pub IsTree-raised : IsTree g cost pairs r edges
    IsTree-raised =
        record {
          shape = record {
            tops = record {
              outer_tops = λ i low. IsTop-raised f outer inner delta fam can (get_or outer i 0) (tree.shape.tops.outer_tops i low);
              inner_tops = λ i low. IsTop-raised f outer inner delta fam can (get_or inner i 0) (tree.shape.tops.inner_tops i low);
              outer_differ = tree.shape.tops.outer_differ;
              inner_differ = tree.shape.tops.inner_differ;
              apart = tree.shape.tops.apart;
            };
            edge = λ i low. record {
              pair_from = held (tree_edge_at edges i).inner (tree_edge_at edges i).pair.from ∙ (tree.shape.edge i low).pair_from;
              pair_to = held (tree_edge_at edges i).outer (tree_edge_at edges i).pair.to ∙ (tree.shape.edge i low).pair_to;
              up_to = let at = (tree.shape.edge i low).up_to in (at.0, at.1, held (get_or outer at.0 0) (tree_edge_at edges i).up.to ∙ at.2);
            };
            up_from = λ i low. held (tree_edge_at edges i).inner (tree_edge_at edges i).up.from ∙ tree.shape.up_from i low;
          };
          exposed_root = tree.exposed_root;
          pair = tree.pair;
          up_tight = λ i low.
              let at = (tree.shape.edge i low).up_to in
              (tight_tree (tree_edge_at edges i).inner (get_or outer at.0 0) (tree_edge_at edges i).up.from (tree_edge_at edges i).up.to
              (i, omega (arith, low, length-inners edges), inner_at edges i low) (at.0, omega (arith, low, at.1, length-outers r edges), refl)
              (tree.shape.up_from i low) at.2).0 (tree.up_tight i low);
        }

    -- the pairs stay tight
    pub IsPaired-raised : IsPaired g (IsTight g cost) pairs
    IsPaired-raised =
        record {
          own = λ t p top is. held t p.from ∙ paired.own t p (IsTop-raised_old f outer inner delta fam can t top) is;
          other = λ t p top is. let m = paired.other t p (IsTop-raised_old f outer inner delta fam can t top) is in
              (m.0, IsTop-raised f outer inner delta fam can m.0 m.1, m.2, held m.0 p.to ∙ m.3, m.4);
          tight = λ t p top is. go t p (IsTop-raised_old f outer inner delta fam can t top) is (stand t);
        }
      where
        in_tree : (i : ℕ) → i < length edges → (IsTight g cost (tree_edge_at edges i).pair.from (tree_edge_at edges i).pair.to) ×
            (IsTight f cost (tree_edge_at edges i).pair.to (tree_edge_at edges i).pair.from →
            IsTight g cost (tree_edge_at edges i).pair.to (tree_edge_at edges i).pair.from)
        in_tree i low =
            let tight = tight_tree (tree_edge_at edges i).inner (tree_edge_at edges i).outer (tree_edge_at edges i).pair.from (tree_edge_at edges i).pair.to
            (i, omega (arith, low, length-inners edges), inner_at edges i low) (suc i, omega (arith, low, length-outers r edges), outer_at r edges i low)
            ((tree.shape.edge i low).pair_from) ((tree.shape.edge i low).pair_to) in
            (tight.0 (pair_tight f cost pairs r edges fam paired tree i low), tight.1)

        go : (t : ℕ) (p : Edge) → IsTop f t → pair_of pairs t ≡ Some p → Stand t → IsTight g cost p.from p.to
        go t p top is (in_outer at) =
            elim (outer_cases r edges at.0 at.1) [
              | inl root ↦ absurd (none-some _ (sym tree.exposed_root ∙ ap (λ n. pair_of pairs n) (sym root.1 ∙ at.2) ∙ is))
              | inr tree_edge ↦
                  let e : flipped (tree_edge_at edges tree_edge.0).pair ≡ p =
                  same_Some _ _ (sym (outer_pair f cost pairs r edges fam paired tree tree_edge.0 tree_edge.1) ∙
                  ap (λ n. pair_of pairs n) (sym tree_edge.3 ∙ at.2) ∙ is) in
                  subst (λ x. IsTight g cost x.from x.to) e
                  ((in_tree tree_edge.0 tree_edge.1).1 (subst (λ x. IsTight f cost x.from x.to) (sym e) (paired.tight t p top is)))
            ]
        go t p top is (in_inner at) =
            let within : at.0 < length edges = omega (arith, at.1, length-inners edges) in
            let e : (tree_edge_at edges at.0).pair ≡ p =
            same_Some _ _ (sym (tree.pair at.0 within) ∙ ap (λ n. pair_of pairs n) (sym (inner_at edges at.0 within) ∙ at.2) ∙ is) in
            subst (λ x. IsTight g cost x.from x.to) e (in_tree at.0 within).0
        go t p top is (in_free out) =
            let m = paired.other t p top is in
            let out_m = mate_out f cost pairs r edges fam paired tree t m.0 p top m.1 is m.3 out in
            omega (
              arith,
              paired.tight t p top is,
              between_moved t m.0 p.from p.to top m.1 (λ e. m.2 (sym e)) (paired.own t p top is) m.3 0 0 0 0 (free_moves t top out) (free_moves m.0 m.1 out_m),
            )

  -- the unpaired tops
  pub IsExposed-raised : (pairs : List (Option Edge)) (root : Option ℕ) (exposed : List ℕ) → IsExposed f pairs root exposed → IsExposed g pairs root exposed
  IsExposed-raised pairs root exposed is =
      record {
        tops = λ i low. IsTop-raised f outer inner delta fam can (get_or exposed i 0) (is.tops i low);
        unpaired = is.unpaired;
        differ = is.differ;
        rootless = is.rootless;
        every = λ t top none. is.every t (IsTop-raised_old f outer inner delta fam can t top) none;
        even = is.even;
      }

-- the condition of a raise, but for the room of the totals
pub record CanTree (f : Family) (cost : ℕ → ℕ → ℕ) : Type 0 where
  pub symmetric : (u v : ℕ) → u < leaf_count f → v < leaf_count f → cost u v ≡ cost v u
  pub triangle : (u v w : ℕ) → u < leaf_count f → v < leaf_count f → w < leaf_count f → cost u w ≤ cost u v + cost v w
  pub small : (u v : ℕ) → u < leaf_count f → v < leaf_count f → cost u v ≤ 2 ^ 61

-- the tops of a tree may be raised by an amount that is found
pub CanRaise-tree : (f : Family) (cost : ℕ → ℕ → ℕ) (pairs : List (Option Edge)) (r : ℕ) (edges : List TreeEdge) (delta : ℕ) → IsFeasible f cost →
    IsPaired f (IsTight f cost) pairs → IsTree f cost pairs r edges → CanChangeDuals f cost r edges delta → CanTree f cost → (w free : ℕ) → IsTop f w →
    IsOut r edges w → Holds f w free → CanRaise f (outers r edges) (inners edges) delta
CanRaise-tree f cost pairs r edges delta feasible paired tree change law w free top_w out_w in_w =
    record {
      tops = tree.shape.tops;
      enough = λ i low. elim (cases_lt 0 (length (cycle_of f (get_or (inners edges) i 0)))) [
        | inl blossom ↦ change.blossoms i low blossom
        | inr none ↦ leaf i low (λ b. absurd (omega (arith, none, b)))
      ];
      fits = λ i l low in_l.
          let low_l = leaf_bound f fam (get_or (outers r edges) i 0) l in_l in
          let low_w = leaf_bound f fam w free in_w in
          let away = out_holds f fam r edges tree.shape.tops.outer_tops tree.shape.tops.inner_tops w free top_w in_w out_w in
          omega (
            arith,
            change.slacks.free l free low_l low_w (i, low, in_l) away,
            between-tops f fam (get_or (outers r edges) i 0) w l free (tree.shape.tops.outer_tops i low) top_w (out_w.outer i low) in_l in_w,
            law.small l free low_l low_w,
          );
    }
  where
    fam : IsFamily f
    fam = feasible.family

    leaf : (i : ℕ) → i < length (inners edges) → (IsBlossom f (get_or (inners edges) i 0) → ⊥) → delta ≤ dual_of f (get_or (inners edges) i 0)
    leaf i low plain =
        let n = get_or (inners edges) i 0 in
        let within : i < length edges = omega (arith, low, length-inners edges) in
        let top = tree.shape.tops.inner_tops i low in
        let named = fam.leaf_named n top.alive plain in
        let l = named.0 in
        let n_is : get_or f.leaf_nodes l 0 ≡ n = get_or_default f.leaf_nodes l 0 n named.1 ∙ named.2 in
        let b = tree_edge_at edges i in
        let at = (tree.shape.edge i within).up_to in
        let from_edge : Holds f n b.up.from = subst (λ m. Holds f m b.up.from) (sym (inner_at edges i within)) (tree.shape.up_from i within) in
        let from_pair : Holds f n b.pair.from = subst (λ m. Holds f m b.pair.from) (sym (inner_at edges i within)) ((tree.shape.edge i within).pair_from) in
        let e : l ≡ b.up.from = leaf-only f fam l b.up.from named.1 (subst (λ m. Holds f m b.up.from) (sym n_is) from_edge) in
        let d : l ≡ b.pair.from = leaf-only f fam l b.pair.from named.1 (subst (λ m. Holds f m b.pair.from) (sym n_is) from_pair) in
        let s = get_or (outers r edges) at.0 0 in
        let q = get_or (outers r edges) (suc i) 0 in
        let low_s : at.0 < length (outers r edges) = omega (arith, at.1, within, length-outers r edges) in
        let low_q : suc i < length (outers r edges) = omega (arith, within, length-outers r edges) in
        let in_q : Holds f q b.pair.to = subst (λ m. Holds f m b.pair.to) (sym (outer_at r edges i within)) ((tree.shape.edge i within).pair_to) in
        let low_y = leaf_bound f fam s b.up.to at.2 in
        let low_z = leaf_bound f fam q b.pair.to in_q in
        subst (λ m. delta ≤ dual_of f m) n_is
        (inner-leaf_enough f fam cost l b.up.to b.pair.to s q delta named.1 (subst (λ m. IsTop f m) (sym n_is) top)
        (tree.shape.tops.outer_tops at.0 low_s) (tree.shape.tops.outer_tops (suc i) low_q)
        (λ same. absurd (apart_places at.0 i at.1 (tree.shape.tops.outer_differ at.0 (suc i) low_s low_q same)))
        (λ same. absurd (tree.shape.tops.apart at.0 i low_s low (sym same ∙ n_is)))
        (λ same. absurd (tree.shape.tops.apart (suc i) i low_q low (sym same ∙ n_is)))
        (subst (λ m. Holds f m l) (sym n_is) (subst (λ x. Holds f n x) (sym e) from_edge)) at.2 in_q
        (subst (λ x. IsTight f cost x b.up.to) (sym e) (tree.up_tight i within))
        (subst (λ x. IsTight f cost x b.pair.to) (sym d) (pair_tight f cost pairs r edges fam paired tree i within))
        (omega (arith, law.triangle b.up.to l b.pair.to low_y named.1 low_z, law.symmetric b.up.to l low_y named.1))
        (change.slacks.between b.up.to b.pair.to at.0 (suc i) low_y low_z low_s low_q (λ same. apart_places at.0 i at.1 same) at.2 in_q))
      where
        apart_places : (j i : ℕ) → j ≤ i → j ≡ suc i → ⊥
        apart_places j i less same = omega (arith, less, same)
