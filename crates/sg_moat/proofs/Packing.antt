-- The cuts of all sets of a family are a packing of odd cuts, and few.
use Rattle.std.proofs.Common.{inl, inr, ap₂, ◌≡◌, ◌≢◌, ◌⊎◌, ◌==◌, ℕ, ◌+◌, ◌-◌, ◌*◌, ◌%◌, ◌<◌, ◌≤◌, ◌≤ℤ◌, min, fold, Bool, true, false, cond, List, []}
use Rattle.std.proofs.Common.{◌∷◌, refl, sym, ◌∙◌, ap, subst, arith, All, length, get_or, count_by, sum_by, None, pos}
use Rattle.std.specs.List.{list_any}
use Rattle.std.proofs.lemmas.Bool.{cases_eq, cases_lt, cases_Bool, eqb-true, eq-eqb, lt-ltb, le-ltb, ltb-true, and_parts, false_from_ne_true, true≢false}
use Rattle.std.proofs.lemmas.List.Elements.{All-weaker}
use Rattle.std.proofs.lemmas.List.Folds.{list_any_at}
use Rattle.sg_base.specs.Sums.{sum_below}
use Rattle.sg_base.proofs.SumLaws.{sum_below-add, sum_below-le, sum_below-same, sum_by_is_sum_below}
use Rattle.sg_base.proofs.Tallies.{below_exchange, cond_small, sum_below_ones, sum_below_unique, sum_by-range}
use Rattle.sg_graph.specs.declared.cut.Cut.{Cut}
use Rattle.sg_graph.specs.Web.{Graph, IsEdge, IsWeb, edge_at, edge_count, edge_weight}
use Rattle.sg_graph.specs.Walk.{IsConnectedWeb, IsDistance, Leads}
use Rattle.sg_graph.specs.Join.{AreTerminals}
use Rattle.sg_graph.specs.OddCut.{CutsPack, IsOddCut, odd_cut_weight}
use Rattle.sg_graph.specs.Table.{IsTableOf, Routes}
use Rattle.sg_graph.proofs.TableLaws.{connected_distance}
use Rattle.sg_graph.proofs.Walks.{distance-edge, distance-itself, distance-joined, distance-over, turned}
use Rattle.sg_arena.specs.Family.{Family, leaf_count, leaves_of, dual_of, holds, Holds, IsAlive, IsFamily}
use Rattle.sg_base.proofs.ListLaws.{place_of_any}
use Rattle.sg_arena.proofs.FamilyLemmas.{leaf_bound, size-is, size-positive}
use Rattle.sg_moat.specs.Input.{AreTerminalTables, distance_from, table_at, terminal_cost}
use Rattle.sg_slack.specs.Matching.{NoSlackIsNegative, dual_in, sum_of_duals}
use Rattle.sg_arena.specs.Sets.{alive_at, inner_of}
use Rattle.sg_moat.specs.Slices.{change_over, inside_count, is_below_level, is_inside}
use Rattle.sg_base.specs.Naturals.{gap}
use Rattle.sg_moat.specs.Gathers.{Gathers, IsMoatCut, reach_from, set_depth}
use Rattle.sg_arena.proofs.SetCount.{sets_few}
use Rattle.sg_moat.proofs.SetDuals.{apart_duals, nested_duals, outside_duals}
use Rattle.sg_moat.proofs.UnitSteps.{Apart, Inner, Stands, depth, depths_change}
use Rattle.sg_moat.proofs.UnitSteps.Stands.{disjoint, outer, inner}
use Rattle.sg_moat.proofs.EdgeReach.{Spans, fold_least, least_bounds, least_by, least_reached, least_same, reach, reach_near, stands_apart, stands_inner}
use Rattle.sg_moat.proofs.EdgeReach.{stands_outer, twice_at_a, twice_at_b, twice_to}

-- the leaves are the terminals, with their distances, and no slack is negative
pub record IsMoatInput (f : Family) (g : Graph) (terminals : List ℕ) (tables : List Routes) : Type 0 where
  pub chosen : AreTerminals g terminals
  pub joined : All (IsEdge g.nodes) g.edges
  pub leaves : leaf_count f ≡ length terminals
  pub distances : (i x : ℕ) → i < leaf_count f → x < g.nodes → IsDistance g (get_or terminals i 0) x (distance_from tables i x)
  pub slack : NoSlackIsNegative f (terminal_cost terminals tables)

-- what the call asks for, as one record
pub IsMoatInput-from : (f : Family) (g : Graph) (terminals : List ℕ) (tables : List Routes) → IsWeb g → IsConnectedWeb g → AreTerminals g terminals →
    leaf_count f ≡ length terminals → AreTerminalTables g terminals tables → NoSlackIsNegative f (terminal_cost terminals tables) →
    IsMoatInput f g terminals tables
IsMoatInput-from f g terminals tables web connected chosen leaves are slack = record {
  chosen = chosen;
  joined = web.joined;
  leaves = leaves;
  distances = λ i x l low.
      let in_list : i < length terminals = omega arith in
      let in_tables : i < length tables = omega (arith, are.count) in
      let source : (table_at tables i).source ≡ get_or terminals i 0 = are.sources i in_list in
      let table : IsTableOf g (table_at tables i) = are.each i (record { source = 0; to = [] }) in_tables in
      let below : (table_at tables i).source < g.nodes = subst (λ t. t < g.nodes) (sym source) (chosen.below i 0 in_list) in
      subst (λ t. IsDistance g t x (distance_from tables i x)) source (connected_distance g (table_at tables i) table connected below x low);
  slack = slack;
}

fold_le : (h : ℕ → ℕ) (xs : List ℕ) (y : ℕ) → fold (λ d x. min d (h x)) y xs ≤ y
fold_le h [] y = omega arith
fold_le h (x ∷ xs) y = omega (arith, fold_le h xs (min y (h x)))

-- no depth is beyond the dual
pub depth_full : (f : Family) (tables : List Routes) (s x : ℕ) → set_depth f tables s x ≤ dual_of f s
depth_full f tables s x = fold_le (reach_from f tables s x) (leaves_of f s) (dual_of f s)

-- a set with a dual is alive
pub dual_alive : (f : Family) (s : ℕ) → 0 < dual_of f s → IsAlive f s
dual_alive f s h = grind arith

module _ (f : Family) (fam : IsFamily f) (g : Graph) (terminals : List ℕ) (tables : List Routes) (input : IsMoatInput f g terminals tables) where
  abbrev term : ℕ → ℕ
  term i = get_or terminals i 0

  abbrev dist : ℕ → ℕ → ℕ
  dist t x = distance_from tables t x

  abbrev far : ℕ → ℕ → ℕ
  far t u = dist t (term u)

  abbrev a_end : ℕ → ℕ
  a_end e = (edge_at g e).a

  abbrev b_end : ℕ → ℕ
  b_end e = (edge_at g e).b

  term_in : (t : ℕ) → t < leaf_count f → term t < g.nodes
  term_in t l = input.chosen.below t 0 (omega (arith, input.leaves))

  leaf_low : (s t : ℕ) → Holds f s t → t < leaf_count f
  leaf_low s t h = leaf_bound f fam s t h

  own : (t : ℕ) → t < leaf_count f → far t t ≡ 0
  own t l = distance-itself g (term t) (far t t) (input.distances t (term t) l (term_in t l))

  some_leaves : (s : ℕ) → 0 < dual_of f s → 0 < length (leaves_of f s)
  some_leaves s some = omega (arith, size-positive f fam s (dual_alive f s some))

  -- two sets along an edge over which the laws of distances hold
  module _ (a b w : ℕ) (spans : (t u : ℕ) → t < leaf_count f → u < leaf_count f → Spans dist far a b w t u)
      (near_a : (t : ℕ) → t < leaf_count f → dist t a ≤ dist t b + w) (near_b : (t : ℕ) → t < leaf_count f → dist t b ≤ dist t a + w) where
    stands : (s s' : ℕ) → 0 < dual_of f s → 0 < dual_of f s' → s ≢ s' → Stands (dual_of f) (reach dist far a b w f) (2 * w) s s'
    stands s s' some some' ne = elim (cases_Bool (list_any (holds f s') (leaves_of f s))) [
      | inl common ↦
          let at = place_of_any (holds f s') (leaves_of f s) 0 common in
          let l : ℕ = get_or (leaves_of f s) at.0 0 in
          let here : Holds f s l = list_any_at (λ x. x == l) (leaves_of f s) at.0 0 at.1 (eq-eqb l l refl) in
          elim (fam.nested s s' l here at.2) [
            | inl over ↦ stands_outer dist far a b w f s s' (some_leaves s' some')
                (λ t h. (over t h, nested_duals f fam s s' t (dual_alive f s some) ne over h))
            | inr under ↦
                stands_inner dist far a b w f s s' (some_leaves s some)
                (λ t h. (under t h, nested_duals f fam s' s t (dual_alive f s' some') (λ (e : s' ≡ s). ne (sym e)) under h))
          ]
      | inr none ↦
          stands_apart dist far a b w f s s' (some_leaves s some) (some_leaves s' some') (λ t u ht hu. spans t u (leaf_low s t ht) (leaf_low s' u hu))
          (λ t u ht hu. omega (
            arith,
            apart_duals f s s' t u ht hu (not_both u hu none) (out t ht none),
            input.slack t u (leaf_low s t ht) (leaf_low s' u hu),
          ))
    ]
      where
        out : (t : ℕ) → Holds f s t → list_any (holds f s') (leaves_of f s) ≡ false → holds f s' t ≡ false
        out t h none = false_from_ne_true (holds f s' t) (λ (k : holds f s' t ≡ true). (let at = place_of_any (λ x. x == t) (leaves_of f s) 0 h in
            let e : get_or (leaves_of f s) at.0 0 ≡ t = eqb-true (get_or (leaves_of f s) at.0 0) t at.2 in
            true≢false (sym (list_any_at (holds f s') (leaves_of f s) at.0 0 at.1 (subst (λ z. holds f s' z ≡ true) (sym e) k)) ∙ none)))

        not_both : (u : ℕ) → Holds f s' u → list_any (holds f s') (leaves_of f s) ≡ false → holds f s u ≡ false
        not_both u h none = false_from_ne_true (holds f s u) (λ (k : holds f s u ≡ true). true≢false (sym h ∙ out u k none))

    depth_first : (s : ℕ) → 0 < dual_of f s → set_depth f tables s a ≡ depth (dual_of f) (reach dist far a b w f) (2 * w) s 0
    depth_first s some =
        fold_least (reach_from f tables s a) (leaves_of f s) (dual_of f s) (some_leaves s some) ∙ ap (min (dual_of f s))
        (least_same (reach_from f tables s a) (λ t. twice_to dist far a b w t 0 - inner_of f s t) (leaves_of f s)
        (λ t h. ap (λ v. v - inner_of f s t) (sym (twice_at_a dist far a b w t (near_a t (leaf_low s t h))))))

    depth_last : (s : ℕ) → 0 < dual_of f s → set_depth f tables s b ≡ depth (dual_of f) (reach dist far a b w f) (2 * w) s (2 * w)
    depth_last s some =
        fold_least (reach_from f tables s b) (leaves_of f s) (dual_of f s) (some_leaves s some) ∙ ap (min (dual_of f s))
        (least_same (reach_from f tables s b) (λ t. twice_to dist far a b w t (2 * w) - inner_of f s t) (leaves_of f s)
        (λ t h. ap (λ v. v - inner_of f s t) (sym (twice_at_b dist far a b w t (near_b t (leaf_low s t h))))))

    change : sum_below (λ s. gap (set_depth f tables s a) (set_depth f tables s b)) (length f.nodes) ≤ 2 * w
    change =
        let d : ℕ → ℕ → ℕ = depth (dual_of f) (reach dist far a b w f) (2 * w) in
        let same : sum_below (λ s. gap (set_depth f tables s a) (set_depth f tables s b)) (length f.nodes) ≡ sum_below (λ s. gap (d s 0) (d s (2 * w)))
        (length f.nodes) =
        sum_below-same (λ s. gap (set_depth f tables s a) (set_depth f tables s b)) (λ s. gap (d s 0) (d s (2 * w))) (length f.nodes) (λ s l. each s) in
        let bound : sum_below (λ s. gap (d s 0) (d s (2 * w))) (length f.nodes) ≤ 2 * w =
        depths_change (dual_of f) (reach dist far a b w f) (2 * w) (length f.nodes)
        (λ s l some k low. reach_near dist far a b w f s (some_leaves s some) k low)
        (λ s s' l l' some some' ne. stands s s' some some' ne) in
        omega arith
      where
        each : (s : ℕ) → gap (set_depth f tables s a) (set_depth f tables s b) ≡ gap (depth (dual_of f) (reach dist far a b w f) (2 * w) s 0)
            (depth (dual_of f) (reach dist far a b w f) (2 * w) s (2 * w))
        each s = elim (cases_lt 0 (dual_of f s)) [
          | inl some ↦ ap₂ gap (depth_first s some) (depth_last s some)
          | inr none ↦ omega (arith, depth_full f tables s a, depth_full f tables s b)
        ]

  leads : (e : ℕ) → e < edge_count g → Leads g e (a_end e) (b_end e)
  leads e l = record { below = l; ways = inl (refl, refl) }

  end_low : (e : ℕ) → e < edge_count g → (a_end e < g.nodes) × (b_end e < g.nodes)
  end_low e l = let edge = input.joined e (record { a = 0; b = 0; w = pos 0 }) l in (edge.first_end, edge.second_end)

  spans_of : (e : ℕ) → e < edge_count g → (t u : ℕ) → t < leaf_count f → u < leaf_count f →
      Spans dist far (a_end e) (b_end e) (edge_weight g e) t u
  spans_of e l t u lt lu =
      let a : ℕ = a_end e in
      let b : ℕ = b_end e in
      let to : IsDistance g (term t) (term u) (far t u) = input.distances t (term u) lt (term_in u lu) in
      let ta : IsDistance g (term t) a (dist t a) = input.distances t a lt (end_low e l).0 in
      let tb : IsDistance g (term t) b (dist t b) = input.distances t b lt (end_low e l).1 in
      let ua : IsDistance g (term u) a (dist u a) = input.distances u a lu (end_low e l).0 in
      let ub : IsDistance g (term u) b (dist u b) = input.distances u b lu (end_low e l).1 in
      record {
        over_a = distance-joined g (term t) (term u) a (far t u) (dist t a) (dist u a) to ta ua;
        over_b = distance-joined g (term t) (term u) b (far t u) (dist t b) (dist u b) to tb ub;
        along = distance-over g (term t) (term u) a b e (far t u) (dist t a) (dist u b) (leads e l) to ta ub;
        back = distance-over g (term t) (term u) b a e (far t u) (dist t b) (dist u a) (turned g e a b (leads e l)) to tb ua;
      }

  -- over an edge the depths of all sets change by at most twice the weight
  pub edge_load : (e : ℕ) → e < edge_count g → sum_below (λ s. change_over g (set_depth f tables s) e) (length f.nodes) ≤ 2 * edge_weight g e
  edge_load e l =
      change (a_end e) (b_end e) (edge_weight g e) (spans_of e l)
      (λ t lt. distance-edge g (term t) (b_end e) (a_end e) e (dist t (b_end e)) (dist t (a_end e)) (turned g e (a_end e) (b_end e) (leads e l))
      (input.distances t (b_end e) lt (end_low e l).1) (input.distances t (a_end e) lt (end_low e l).0))
      (λ t lt. distance-edge g (term t) (a_end e) (b_end e) e (dist t (a_end e)) (dist t (b_end e)) (leads e l)
      (input.distances t (a_end e) lt (end_low e l).0) (input.distances t (b_end e) lt (end_low e l).1))

  inside_parts : (y d : ℕ) → is_inside y d ≡ true → (0 < d) × (d < y)
  inside_parts y d h = grind (arith, and_parts, ltb-true)

  -- a node lies strictly inside at most one moat
  one_moat : (x : ℕ) → x < g.nodes → (s s' : ℕ) → s ≢ s' → is_inside (dual_of f s) (set_depth f tables s x) ≡ true →
      is_inside (dual_of f s') (set_depth f tables s' x) ≡ true → ⊥
  one_moat x low s s' ne p q =
      let here = inside_parts (dual_of f s) (set_depth f tables s x) p in
      let there = inside_parts (dual_of f s') (set_depth f tables s' x) q in
      refuted (dual_of f s) (dual_of f s') (reach dist far x x 0 f s 0) (reach dist far x x 0 f s' 0)
      (by_stand s s' (stands x x 0 at_point stays stays s s' (omega arith) (omega arith) ne))
      (set_depth f tables s x) (set_depth f tables s' x) (depth_first x x 0 at_point stays stays s (omega arith))
      (depth_first x x 0 at_point stays stays s' (omega arith)) here there
    where
      at_point : (t u : ℕ) → t < leaf_count f → u < leaf_count f → Spans dist far x x 0 t u
      at_point t u lt lu =
          let law : far t u ≤ dist t x + dist u x =
          distance-joined g (term t) (term u) x (far t u) (dist t x) (dist u x) (input.distances t (term u) lt (term_in u lu)) (input.distances t x lt low)
          (input.distances u x lu low) in
          record { over_a = law; over_b = law; along = omega arith; back = omega arith }

      stays : (t : ℕ) → t < leaf_count f → dist t x ≤ dist t x + 0
      stays t l = omega arith

      by_stand : (s s' : ℕ) → Stands (dual_of f) (reach dist far x x 0 f) (2 * 0) s s' →
          Apart (dual_of f s) (dual_of f s') (reach dist far x x 0 f s 0) (reach dist far x x 0 f s' 0)
          ⊎ (Inner (dual_of f s') (reach dist far x x 0 f s' 0) (reach dist far x x 0 f s 0) ⊎ Inner (dual_of f s) (reach dist far x x 0 f s 0)
          (reach dist far x x 0 f s' 0))
      by_stand s s' (disjoint h) = inl (h 0 (omega arith))
      by_stand s s' (outer h) = inr (inl (h 0 (omega arith)))
      by_stand s s' (inner h) = inr (inr (h 0 (omega arith)))

      refuted : (y y' p p' : ℕ) → Apart y y' p p' ⊎ (Inner y' p' p ⊎ Inner y p p') → (d d' : ℕ) → d ≡ min y p → d' ≡ min y' p' →
          (0 < d) × (d < y) →
          (0 < d') × (d' < y') → ⊥
      refuted y y' p p' (inl h) d d' e e' k k' = omega (arith, k.0, k.1, k'.0, k'.1)
      refuted y y' p p' (inr (inl h)) d d' e e' k k' = let z : p ≡ 0 = h (omega (arith, k'.1)) in omega (arith, k.0)
      refuted y y' p p' (inr (inr h)) d d' e e' k k' = let z : p' ≡ 0 = h (omega (arith, k.1)) in omega (arith, k'.0)

  -- so the places strictly inside moats are at most the nodes
  pub places_few : sum_below (λ s. inside_count g (set_depth f tables s) (dual_of f s)) (length f.nodes) ≤ g.nodes
  places_few =
      let here : ℕ → ℕ → ℕ = λ s x. cond (is_inside (dual_of f s) (set_depth f tables s x)) 1 0 in
      let turned = below_exchange here (length f.nodes) g.nodes in
      let each : sum_below (λ x. sum_below (λ s. here s x) (length f.nodes)) g.nodes ≤ sum_below (λ x. 1) g.nodes =
      sum_below-le (λ x. sum_below (λ s. here s x) (length f.nodes)) (λ x. 1) g.nodes
      (λ x l. sum_below_unique (λ s. here s x) 1 (length f.nodes) (λ s b. cond_small (is_inside (dual_of f s) (set_depth f tables s x)))
      (λ s s' b b' p q. one x l s s' p q)) in
      omega (arith, sum_below_ones g.nodes)
    where
      counted : (b : Bool) → 0 < cond {A = ℕ} b 1 0 → b ≡ true
      counted true h = refl
      counted false h = absurd (omega arith)

      one : (x : ℕ) → x < g.nodes → (s s' : ℕ) → 0 < cond {A = ℕ} (is_inside (dual_of f s) (set_depth f tables s x)) 1 0 →
          0 < cond {A = ℕ} (is_inside (dual_of f s') (set_depth f tables s' x)) 1 0 → s ≡ s'
      one x l s s' p q = elim (cases_eq s s') [
        | inl e ↦ e
        | inr ne ↦ absurd (one_moat x l s s' ne (counted (is_inside (dual_of f s) (set_depth f tables s x)) p)
            (counted (is_inside (dual_of f s') (set_depth f tables s' x)) q))
      ]

  -- a cut at a level holds exactly the terminals of its set
  inside_is : (s level i : ℕ) → 0 < level → level ≤ dual_of f s → i < leaf_count f →
      is_below_level (set_depth f tables s) level (term i) ≡ holds f s i
  inside_is s level i some top l = by_side (holds f s i) refl
    where
      some_dual : 0 < dual_of f s
      some_dual = omega arith

      depth_is : set_depth f tables s (term i) ≡ min (dual_of f s) (least_by (reach_from f tables s (term i)) (leaves_of f s))
      depth_is = fold_least (reach_from f tables s (term i)) (leaves_of f s) (dual_of f s) (some_leaves s some_dual)

      by_side : (b : Bool) → holds f s i ≡ b → is_below_level (set_depth f tables s) level (term i) ≡ b
      by_side true e =
          lt-ltb (set_depth f tables s (term i)) level
          (omega (arith, depth_is, least_bounds (reach_from f tables s (term i)) (leaves_of f s) i e, own i l))
      by_side false e =
          let at = least_reached (reach_from f tables s (term i)) (leaves_of f s) (some_leaves s some_dual) in
          le-ltb (set_depth f tables s (term i)) level
          (omega (arith, depth_is, at.2, outside_duals f s at.0 i at.1 e, input.slack at.0 i (leaf_low s at.0 at.1) l))

  -- a cut of a moat is an odd cut
  pub odd_cut : (c : Cut) → IsMoatCut f g tables c → IsOddCut g terminals c.edges
  odd_cut c h = record {
    inside = is_below_level (set_depth f tables h.name) h.slice.level;
    odd = ap (λ n. n % 2) counted ∙ fam.odd h.name (dual_alive f h.name h.positive);
    is = h.slice.is;
  }
    where
      counted : count_by (is_below_level (set_depth f tables h.name) h.slice.level) terminals ≡ length (leaves_of f h.name)
      counted =
          sum_by_is_sum_below (λ t. cond (is_below_level (set_depth f tables h.name) h.slice.level t) 1 0) terminals 0
          ∙ ap (sum_below (λ i. cond (is_below_level (set_depth f tables h.name) h.slice.level (term i)) 1 0)) (sym input.leaves)
          ∙ sum_below-same (λ i. cond (is_below_level (set_depth f tables h.name) h.slice.level (term i)) 1 0) (λ i. cond (holds f h.name i) 1 0) (leaf_count f)
          (λ i l. ap (λ b. cond b 1 0) (inside_is h.name h.slice.level i h.slice.above h.slice.up_to l))
          ∙ sym (sum_by-range (λ i. cond (holds f h.name i) 1 0) (leaf_count f)) ∙ sym (size-is f fam h.name)

  -- the cuts of all sets weigh as much as all duals
  pub duals_total : (cuts : List Cut) → Gathers f g tables (length f.nodes) cuts → sum_by odd_cut_weight cuts ≡ sum_of_duals f
  duals_total cuts all = all.total ∙ sym (sum_by_is_sum_below dual_in f.nodes None)

  -- the cuts of all sets pack
  pub packs : (cuts : List Cut) → Gathers f g tables (length f.nodes) cuts → CutsPack g terminals cuts
  packs cuts all = record {
    positive = All-weaker (IsMoatCut f g tables) (λ c. pos 1 ≤ℤ c.y) (λ c h. h.slice.positive) cuts all.are;
    odd_cuts = All-weaker (IsMoatCut f g tables) (λ c. IsOddCut g terminals c.edges) (λ c h. odd_cut c h) cuts all.are;
    within = λ e l. omega (arith, all.loads e l, edge_load e l);
    short =
        omega (
          arith,
          all.few,
          sum_below-add (alive_at f) (λ s. inside_count g (set_depth f tables s) (dual_of f s)) (length f.nodes),
          sets_few f fam,
          places_few,
          input.leaves,
        );
  }
