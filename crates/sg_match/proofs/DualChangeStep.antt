-- The engine's state after a round: a raise of the tree, and what is tight then.
use Rattle.std.proofs.Common.{◌≡◌, ◌≢◌, ℕ, ◌+◌, ◌*◌, ◌-◌, ◌<◌, ◌≤◌, ◌%◌, Bool, true, false, not, cond, eqb, ℤ, pos, List, [], length, get_or, MatchOption}
use Rattle.std.proofs.Common.{zero, suc, Option, Some, None, refl, sym, ap, ◌∙◌, subst, inl, inr, arith, option_map, ext_get_or}
use Rattle.std.proofs.lemmas.Option.{none-some, same_Some}
use Rattle.std.specs.List.{list_any, range_with_len}
use Rattle.std.specs.Option.{option_map_or}
use Rattle.std.proofs.lemmas.Int.{ints}
use Rattle.sg_arena.proofs.FamilyLemmas.{some_leaf}
use Rattle.sg_base.proofs.ListLaws.{cases_in, list_any-agree, sum_by-agree}
use Rattle.sg_arena.proofs.RaisedFamily.{IsTop-raised_old, cycle-raised, length-raised, node_at-raised}
use Rattle.sg_arena.specs.Changes.{CanRaise, raise_steps, raised, raised_dual, with_dual}
use Rattle.sg_base.specs.Naturals.{nat_of}
use Rattle.sg_arena.specs.Family.{Family, Holds, IsBlossom, IsFamily, IsTop, Node, dual_of, holds, leaf_count, node_at}
use Rattle.sg_match.proofs.InnerLemmas.{IsLeastDual}
use Rattle.sg_base.proofs.SumLaws.{sum_below-same, sum_by_is_sum_below}
use Rattle.sg_base.specs.Sums.{sum_below}
use Rattle.sg_match.proofs.EngineLemmas.{even, exposed_of, symmetric, tree_of}
use Rattle.sg_match.proofs.ParityLemmas.{tree_parity}
use Rattle.sg_match.proofs.NearestStep.{CanChangeDuals-nearest}
use Rattle.sg_match.proofs.RaiseStep.{CanRaise-tree, IsFeasible-raised, IsExposed-raised, IsPaired-raised, IsTree-raised, between_moved, free_moves, held, outer_moves}
use Rattle.sg_match.proofs.TreeLemmas.{inner_at, length-inners, outer_cases, outer_pair}
use Rattle.sg_match.proofs.TopLemmas.{top_of}
use Rattle.sg_match.specs.Bound.{IsBounded, IsCalm}
use Rattle.sg_match.specs.DualChange.{CanChangeDuals}
use Rattle.sg_match.specs.InnerZeros.{IsInnerZero}
use Rattle.sg_match.specs.Engine.{IsEngine}
use Rattle.sg_match.specs.Events.{IsNext, IsTightOuterFree, IsTightOuterOuter}
use Rattle.sg_match.specs.Feasible.{IsFeasible}
use Rattle.sg_slack.specs.Tight.{IsTight}
use Rattle.sg_match.specs.Exposed.{IsExposed}
use Rattle.sg_slack.specs.Metric.{cost}
use Rattle.sg_match.specs.Pairs.{IsPaired, pair_of}
use Rattle.sg_match.specs.Nearest.{HasNearest, IsAt, IsOuterFreeAt, IsOuterOuterAt, IsNearest}
use Rattle.sg_match.specs.State.{State}
use Rattle.sg_match.specs.Steps.{blossoms_of, has_children, rest_of, steps_left, tree_left}
use Rattle.sg_match.specs.Tree.{IsFreeLeaf, IsOut, IsTree, any_top, inners, tree_edge_at, outers}
use Rattle.sg_match.specs.declared.Edge.{Edge}
use Rattle.sg_match.specs.declared.Event.{Event}
use Rattle.sg_match.specs.declared.Event.TheVariants.{InnerZero, OuterOuter, OuterFree}
use Rattle.sg_match.specs.declared.TreeEdge.{TreeEdge}

-- a raise by nothing changes nothing
pub raised-none : (f : Family) (outer inner : List ℕ) → raised f outer inner 0 ≡ f
raised-none f outer inner =
    ap (λ n. record { leaf_nodes = f.leaf_nodes; nodes = (raised f outer inner 0).nodes; steps = n }) none
    ∙ ap (λ ns. record { leaf_nodes = f.leaf_nodes; nodes = ns; steps = f.steps })
    (ext_get_or None (raised f outer inner 0).nodes f.nodes (length-raised f outer inner 0)
    (λ n low. node_at-raised f outer inner 0 n ∙ same n (node_at f n)))
  where
    none : f.steps + raise_steps 0 ≡ f.steps
    none = omega arith

    dual_same : (p q : Bool) (d : ℕ) → cond p (d + 0) (cond q (d - 0) d) ≡ d
    dual_same true q d = omega arith
    dual_same false true d = omega arith
    dual_same false false d = refl

    same : (n : ℕ) (o : Option Node) → option_map (with_dual (raised_dual outer inner 0 n)) o ≡ o
    same n None = refl
    same n (Some x) = ap (λ d. Some (record { leaves = x.leaves; dual = d; cycle = x.cycle }))
        (dual_same (list_any (λ m. eqb m n) outer) (list_any (λ m. eqb m n) inner) x.dual)

module _ (f : Family) (cost : ℕ → ℕ → ℕ) (pairs : List (Option Edge)) (r : ℕ) (edges : List TreeEdge) (fam : IsFamily f)
    (paired : IsPaired f (IsTight f cost) pairs) (tree : IsTree f cost pairs r edges) where
  -- an unpaired top that isn't the root is outside the tree
  out_of_unpaired : (t : ℕ) → pair_of pairs t ≡ None → r ≢ t → IsOut r edges t
  out_of_unpaired t none differ =
      record {
        outer = λ i low same. elim (outer_cases r edges i low) [
          | inl root ↦ differ (sym root.1 ∙ same)
          | inr at ↦ none-some _ (sym none ∙ ap (λ n. pair_of pairs n) (sym same ∙ at.3) ∙ outer_pair f cost pairs r edges fam paired tree at.0 at.1)
        ];
        inner = λ i low same.
            let within : i < length edges = omega (arith, low, length-inners edges) in
            none-some _ (sym none ∙ ap (λ n. pair_of pairs n) (sym same ∙ inner_at edges i within) ∙ tree.pair i within);
      }

  -- a leaf outside the tree
  some_free : (exposed : List ℕ) → IsExposed f pairs (Some r) exposed → (t : ℕ) × (v : ℕ) × IsTop f t × IsOut r edges t × Holds f t v
  some_free exposed is =
      let first : 0 < length exposed = omega (arith, is.even) in
      let t = get_or exposed 0 0 in
      let top = is.tops 0 first in
      let v = some_leaf f fam t top.alive in
      (t, v.0, top, out_of_unpaired t (is.unpaired 0 first) (λ e. is.rootless 0 first (ap Some e)), v.1)

  HasNearest-tree : IsFeasible f cost → (exposed : List ℕ) → IsExposed f pairs (Some r) exposed →
      ((u v : ℕ) → u < leaf_count f → v < leaf_count f → cost u v % 2 ≡ 0) → HasNearest f cost r edges
  HasNearest-tree feasible exposed is even =
      let first : 0 < length (outers r edges) = omega arith in
      let w = some_leaf f fam r (tree.shape.tops.outer_tops 0 first).alive in
      record {
        feasible = feasible;
        shape = tree.shape;
        free = some_free exposed is;
        alike = λ i j u v low_i low_j in_u in_v. tree_parity f cost pairs r edges feasible paired tree even i j u v w.0 w.1 low_i low_j in_u in_v;
      }

-- a raise keeps the blossoms
pub blossoms-raised : (f : Family) (outer inner : List ℕ) (delta : ℕ) → blossoms_of (raised f outer inner delta) ≡ blossoms_of f
blossoms-raised f outer inner delta =
    sum_by_is_sum_below one (raised f outer inner delta).nodes None
    ∙ ap (λ k. sum_below (λ n. one (node_at (raised f outer inner delta) n)) k) (length-raised f outer inner delta)
    ∙ sum_below-same (λ n. one (node_at (raised f outer inner delta) n)) (λ n. one (node_at f n)) (length f.nodes)
    (λ n low. ap one (node_at-raised f outer inner delta n) ∙ ap (λ b. cond b 1 0) (same n (node_at f n)))
    ∙ sym (sum_by_is_sum_below one f.nodes None)
  where
    one : Option Node → ℕ
    one = λ o. cond (has_children o) 1 0

    same_list : (x : Node) (d : ℕ) → has_children (Some (record { leaves = x.leaves; dual = d; cycle = x.cycle })) ≡ has_children (Some x)
    same_list x d = refl

    same : (n : ℕ) (o : Option Node) → has_children (option_map (with_dual (raised_dual outer inner delta n)) o) ≡ has_children o
    same n None = refl
    same n (Some x) = same_list x (raised_dual outer inner delta n x.dual)

module _ (f : Family) (cost : ℕ → ℕ → ℕ) (r : ℕ) (edges : List TreeEdge) (delta : ℕ) (fam : IsFamily f)
    (can : CanRaise f (outers r edges) (inners edges) delta) where
  abbrev g : Family
  g = raised f (outers r edges) (inners edges) delta

  -- and the leaves that the outer tops hold
  rest-raised : rest_of g r edges ≡ rest_of f r edges
  rest-raised =
      sum_by-agree (λ l. cond (not (any_top g (outers r edges) l)) 1 0) (λ l. cond (not (any_top f (outers r edges) l)) 1 0) (range_with_len 0 (leaf_count f))
      (λ l. ap (λ b. cond (not b) 1 0) (list_any-agree (λ t. holds g t l) (λ t. holds f t l) (outers r edges) (λ t. held f cost r edges delta fam can t l)))

  -- the dual of an inner top
  dual-raised : (i : ℕ) → i < length (inners edges) → dual_of g (get_or (inners edges) i 0) ≡ dual_of f (get_or (inners edges) i 0) - delta
  dual-raised i low =
      elim (cases_in (outers r edges) (get_or (inners edges) i 0)) [
        | inl clash ↦ absurd (can.tops.apart clash.0 i clash.1 low clash.2)
        | inr none ↦ elim (cases_in (inners edges) (get_or (inners edges) i 0)) [
          | inl some ↦ ap (λ o. option_map_or (λ (x : Node). x.dual) o 0)
              (node_at-raised f (outers r edges) (inners edges) delta (get_or (inners edges) i 0)) ∙ lowered (get_or (inners edges) i 0) none.1 some.3
              (node_at f (get_or (inners edges) i 0))
          | inr away ↦ absurd (away.0 i low refl)
        ]
      ]
    where
      lowered : (n : ℕ) → list_any (λ m. eqb m n) (outers r edges) ≡ false → list_any (λ m. eqb m n) (inners edges) ≡ true → (o : Option Node) →
          option_map_or (λ (x : Node). x.dual) (option_map (with_dual (raised_dual (outers r edges) (inners edges) delta n)) o) 0 ≡ option_map_or
          (λ (x : Node). x.dual) o 0 - delta
      lowered n out in_inner None = omega arith
      lowered n out in_inner (Some x) = rw (out, in_inner) refl

  -- an inner blossom whose dual the raise took is of dual 0 now
  IsInnerZero-raised : (i : ℕ) → i < length edges → IsBlossom f (tree_edge_at edges i).inner → dual_of f (tree_edge_at edges i).inner ≡ delta →
      IsInnerZero g edges (tree_edge_at edges i).inner
  IsInnerZero-raised i low blossom all =
      record {
        place = i;
        within = low;
        here = refl;
        blossom = subst (λ c. 0 < length c) (sym (cycle-raised f (outers r edges) (inners edges) delta fam can (tree_edge_at edges i).inner)) blossom;
        inner_zero =
            let is = subst (λ n. dual_of g n ≡ dual_of f n - delta) (inner_at edges i low) (dual-raised i (omega (arith, low, length-inners edges))) in
            omega (arith, is, all);
      }

  -- the pair at the amount is tight after a raise by it
  tight_outer_free : (u v : ℕ) → IsOuterFreeAt f cost r edges delta u v → IsTight g cost u v
  tight_outer_free u v at =
      let t = top_of f fam v at.low_v in
      let out = at.out t.0 t.1 t.2 in
      let s = get_or (outers r edges) at.outer.0 0 in
      omega (
        arith,
        at.slack,
        between_moved f cost r edges delta fam can s t.0 u v (can.tops.outer_tops at.outer.0 at.outer.1) t.1 (out.outer at.outer.0 at.outer.1) at.outer.2 t.2
            delta 0 0 0 (outer_moves f cost r edges delta fam can s (at.outer.0, at.outer.1, refl)) (free_moves f cost r edges delta fam can t.0 t.1 out),
      )

  tight_outer_outer : (u v : ℕ) → IsOuterOuterAt f cost r edges delta u v → IsTight g cost u v
  tight_outer_outer u v at =
      let s = get_or (outers r edges) at.outer_u.0 0 in
      let t = get_or (outers r edges) at.outer_v.0 0 in
      let top_s = can.tops.outer_tops at.outer_u.0 at.outer_u.1 in
      let differ : s ≢ t = (λ same. at.apart s top_s at.outer_u.2 (subst (λ n. Holds f n v) (sym same) at.outer_v.2)) in
      omega (
        arith,
        at.slack,
        between_moved f cost r edges delta fam can s t u v top_s (can.tops.outer_tops at.outer_v.0 at.outer_v.1) differ at.outer_u.2 at.outer_v.2
            delta 0 delta 0 (outer_moves f cost r edges delta fam can s (at.outer_u.0, at.outer_u.1, refl))
            (outer_moves f cost r edges delta fam can t (at.outer_v.0, at.outer_v.1, refl)),
      )

-- the state after the raise
module _ (s : State) (r delta : ℕ) (engine : IsEngine s) (rooted : s.root ≡ Some r) (change : CanChangeDuals s.family (cost s.table) r s.edges delta) where
  abbrev f : Family
  f = s.family

  abbrev g' : Family
  g' = raised s.family (outers r s.edges) (inners s.edges) delta

  abbrev pub after : State
  after = record s { family = g' }

  fam : IsFamily s.family
  fam = engine.feasible.family

  low : (u : ℕ) → u < leaf_count s.family → u < s.table.size
  low u less = omega (arith, less, engine.leaves)

  tree : IsTree s.family (cost s.table) s.pairs r s.edges
  tree = tree_of s engine r rooted

  CanRaise-engine : CanRaise s.family (outers r s.edges) (inners s.edges) delta
  CanRaise-engine =
      let at = some_free s.family (cost s.table) s.pairs r s.edges fam engine.paired tree s.exposed (exposed_of s engine r rooted) in
      CanRaise-tree s.family (cost s.table) s.pairs r s.edges delta engine.feasible engine.paired tree change
      (record {
        symmetric = symmetric s engine;
        triangle = λ u v w low_u low_v low_w. engine.costs.triangle u v w (low u low_u) (low v low_v) (low w low_w);
        small = λ u v low_u low_v. omega (arith, engine.costs.bounded u v (low u low_u) (low v low_v));
      })
      at.0 at.1 at.2 at.3 at.4

  -- a raise changes nothing of the steps that are left
  pub left-raised : steps_left after ≡ steps_left s
  left-raised =
      subst (λ o. tree_left g' s.exposed o s.edges + 2 * blossoms_of g' ≡ tree_left s.family s.exposed o s.edges + 2 * blossoms_of s.family) (sym rooted)
      (omega (
        arith,
        rest-raised s.family (cost s.table) r s.edges delta fam CanRaise-engine,
        blossoms-raised s.family (outers r s.edges) (inners s.edges) delta,
      ))

  IsEngine-raised : IsBounded after → IsEngine after
  IsEngine-raised bounded =
      let can = CanRaise-engine in
      record {
        costs = engine.costs;
        leaves = engine.leaves;
        room = engine.room ∙ sym (length-raised s.family (outers r s.edges) (inners s.edges) delta);
        feasible = IsFeasible-raised s.family (cost s.table) r s.edges delta fam can engine.feasible change (symmetric s engine)
            (λ l less. top_of s.family fam l less);
        paired = IsPaired-raised s.family (cost s.table) r s.edges delta fam can s.pairs engine.paired tree;
        exposed = IsExposed-raised s.family (cost s.table) r s.edges delta fam can s.pairs s.root s.exposed engine.exposed;
        tree = subst (λ o. MatchOption o (s.edges ≡ []) (λ q. IsTree g' (cost s.table) s.pairs q s.edges)) (sym rooted)
            (IsTree-raised s.family (cost s.table) r s.edges delta fam can s.pairs engine.paired tree);
        left = omega (arith, left-raised, engine.left);
        bounded = bounded;
      }

  -- the same tops hold the same leaves
  was : (t : ℕ) → IsTop g' t → IsTop s.family t
  was = IsTop-raised_old s.family (outers r s.edges) (inners s.edges) delta fam CanRaise-engine

  same : (t l : ℕ) → holds g' t l ≡ holds s.family t l
  same = held s.family (cost s.table) r s.edges delta fam CanRaise-engine

  -- the pair at this amount comes next
  IsNext-raised : (event : Event) → IsAt s.family (cost s.table) r s.edges delta event → IsNext after r event
  IsNext-raised (InnerZero node) none = absurd none
  IsNext-raised (OuterFree u v) at =
      record {
        low_u = at.low_u;
        low_v = at.low_v;
        outer = (at.outer.0, at.outer.1, same _ u ∙ at.outer.2);
        out = λ t top in_t. at.out t (was t top) (sym (same t v) ∙ in_t);
        slack = omega (arith, tight_outer_free s.family (cost s.table) r s.edges delta fam CanRaise-engine u v at);
      }
  IsNext-raised (OuterOuter u v) at =
      record {
        low_u = at.low_u;
        low_v = at.low_v;
        outer_u = (at.outer_u.0, at.outer_u.1, same _ u ∙ at.outer_u.2);
        outer_v = (at.outer_v.0, at.outer_v.1, same _ v ∙ at.outer_v.2);
        apart = λ t top in_u in_v. at.apart t (was t top) (sym (same t u) ∙ in_u) (sym (same t v) ∙ in_v);
        slack = omega (arith, tight_outer_outer s.family (cost s.table) r s.edges delta fam CanRaise-engine u v at);
      }

  -- before a raise by something nothing is due
  IsCalm-before : 1 ≤ delta → IsCalm s
  IsCalm-before some =
      record {
        inner_zero = λ node zero.
            let is = inner_at s.edges zero.place zero.within ∙ zero.here in
            let within : zero.place < length (inners s.edges) = omega (arith, zero.within, length-inners s.edges) in
            let least = change.blossoms zero.place within (subst (λ n. IsBlossom s.family n) (sym is) zero.blossom) in
            omega (arith, some, least, ap (λ n. dual_of s.family n) is, zero.inner_zero);
        free = λ root u v is at. free_apart u v (subst (λ n. IsTightOuterFree s n u v) (same_root root is) at);
        both = λ root u v is at. both_apart u v (subst (λ n. IsTightOuterOuter s n u v) (same_root root is) at);
      }
    where
      same_root : (root : ℕ) → s.root ≡ Some root → root ≡ r
      same_root root is = same_Some root r (sym is ∙ rooted)

      free_apart : (u v : ℕ) → IsTightOuterFree s r u v → ⊥
      free_apart u v at =
          let away : IsFreeLeaf s.family r s.edges v = (
            λ i low_i in_v. let out = at.out (get_or (outers r s.edges) i 0) (tree.shape.tops.outer_tops i low_i) in_v in out.outer i low_i refl,
            λ i low_i in_v. let out = at.out (get_or (inners s.edges) i 0) (tree.shape.tops.inner_tops i low_i) in_v in out.inner i low_i refl,
          ) in
          omega (arith, some, at.slack, change.slacks.free u v at.low_u at.low_v at.outer away)

      both_apart : (u v : ℕ) → IsTightOuterOuter s r u v → ⊥
      both_apart u v at =
          let i = at.outer_u.0 in
          let j = at.outer_v.0 in
          let differ : i ≢ j =
          (λ same. at.apart (get_or (outers r s.edges) i 0) (tree.shape.tops.outer_tops i at.outer_u.1) at.outer_u.2
          (subst (λ k. Holds s.family (get_or (outers r s.edges) k 0) v) (sym same) at.outer_v.2)) in
          omega (arith, some, at.slack, change.slacks.between u v i j at.low_u at.low_v at.outer_u.1 at.outer_v.1 differ at.outer_u.2 at.outer_v.2)

-- an event that comes next is due
next_due : (s : State) (r : ℕ) → s.root ≡ Some r → (event : Event) → IsNext s r event → IsCalm s → ⊥
next_due s r rooted (InnerZero node) next calm = calm.inner_zero node next.inner_zero
next_due s r rooted (OuterFree u v) next calm = calm.free r u v rooted next
next_due s r rooted (OuterOuter u v) next calm = calm.both r u v rooted next

-- what the nearest pair and the least dual give: by how much the duals rise
pub record IsDualChange (s : State) (r : ℕ) (event : Event) (amount delta : ℕ) : Type 0 where
  pub near : IsNearest s.family (cost s.table) r s.edges amount event
  pub least : IsLeastDual s.family s.edges (length s.edges) (pos amount) (pos delta)

-- the duals are no less than 0, nor is their least
whole_least : (f : Family) (edges : List TreeEdge) (n amount : ℕ) (delta : ℤ) → IsLeastDual f edges n (pos amount) delta → delta ≡ pos (nat_of delta)
whole_least f edges n amount delta least =
    elim least.one [
      | inl same ↦ subst (λ z. z ≡ pos (nat_of z)) (sym same) refl
      | inr at ↦ subst (λ z. z ≡ pos (nat_of z)) (sym at.3) refl
    ]

module _ (s : State) (r : ℕ) (engine : IsEngine s) (rooted : s.root ≡ Some r) where
  -- while a top has no pair there is something to come to
  pub HasNearest-engine : HasNearest s.family (cost s.table) r s.edges
  HasNearest-engine =
      HasNearest-tree s.family (cost s.table) s.pairs r s.edges engine.feasible.family engine.paired (tree_of s engine r rooted) engine.feasible s.exposed
      (exposed_of s engine r rooted) (even s engine)

  -- the raise that was found may be made
  pub CanChangeDuals-changed : (event : Event) (amount delta : ℕ) → IsDualChange s r event amount delta → CanChangeDuals s.family (cost s.table) r s.edges delta
  CanChangeDuals-changed event amount delta changed =
      CanChangeDuals-nearest s.family (cost s.table) r s.edges amount event delta changed.near (omega (arith, ints, changed.least.within))
      (λ i low blossom.
      let within : i < length s.edges = omega (arith, low, length-inners s.edges) in
      let is = inner_at s.edges i within in
      let dual = changed.least.duals i within (subst (λ n. IsBlossom s.family n) is blossom) in
      subst (λ n. delta ≤ dual_of s.family n) (sym is) (omega (arith, ints, dual)))

  -- where no inner blossom is of dual 0 then, the nearest pair is tight
  pub IsNext-changed : (event : Event) (amount delta : ℕ) (changed : IsDualChange s r event amount delta) →
      ((node : ℕ) → IsInnerZero (raised s.family (outers r s.edges) (inners s.edges) delta) s.edges node → ⊥) →
      IsNext (after s r delta engine rooted (CanChangeDuals-changed event amount delta changed)) r event
  IsNext-changed event amount delta changed none =
      elim changed.least.one [
        | inl same ↦ IsNext-raised s r delta engine rooted (CanChangeDuals-changed event amount delta changed) event
            (subst (λ n. IsAt s.family (cost s.table) r s.edges n event) (omega (arith, ints, same)) changed.near.one)
        | inr at ↦ absurd (none (tree_edge_at s.edges at.0).inner
            (IsInnerZero-raised s.family (cost s.table) r s.edges delta engine.feasible.family
            (CanRaise-engine s r delta engine rooted (CanChangeDuals-changed event amount delta changed)) at.0 at.1 at.2 (omega (arith, ints, at.3))))
      ]

  -- after the raise something is due
  not_calm : (event : Event) (amount delta : ℕ) (changed : IsDualChange s r event amount delta) →
      IsCalm (after s r delta engine rooted (CanChangeDuals-changed event amount delta changed)) → ⊥
  not_calm event amount delta changed calm =
      next_due (after s r delta engine rooted (CanChangeDuals-changed event amount delta changed)) r rooted event
      (IsNext-changed event amount delta changed calm.inner_zero) calm

  -- so the bound is kept
  IsBounded-changed : (event : Event) (amount delta : ℕ) (changed : IsDualChange s r event amount delta) →
      IsBounded (after s r delta engine rooted (CanChangeDuals-changed event amount delta changed))
  IsBounded-changed event amount zero changed =
      subst (λ f. IsBounded (record s { family = f })) (sym (raised-none s.family (outers r s.edges) (inners s.edges))) engine.bounded
  IsBounded-changed event amount (suc n) changed =
      let change = CanChangeDuals-changed event amount (suc n) changed in
      let left = left-raised s r (suc n) engine rooted change in
      let before = engine.bounded.calm (IsCalm-before s r (suc n) engine rooted change (omega arith)) in
      record { due = omega (arith, left, before); calm = λ calm. absurd (not_calm event amount (suc n) changed calm) }

-- a round over the values as the calls hand them on: what is raised by is a whole number
pub record IsChangingDuals (s : State) (root : ℕ) (event : Event) (amount given : ℤ) : Type 0 where
  pub engine : IsEngine s
  pub rooted : s.root ≡ Some root
  pub whole : given ≡ pos (nat_of given)
  pub changed : IsDualChange s root event (nat_of amount) (nat_of given)

-- what a round has found, as one record
pub IsChangingDuals-made : (s now : State) (root : ℕ) (event : Event) (edges : List TreeEdge) (amount most delta given : ℤ) → IsEngine s → s ≡ now →
    now.root ≡ Some root → edges ≡ s.edges → amount ≡ pos (nat_of amount) → most ≡ amount → given ≡ delta →
    IsNearest s.family (cost s.table) root edges (nat_of amount) event → IsLeastDual s.family edges (length edges) most delta →
    IsChangingDuals s root event amount given
IsChangingDuals-made s now root event edges amount most delta given engine same rooted same_edges whole same_most same_delta nearest least =
    let all : IsLeastDual s.family s.edges (length s.edges) (pos (nat_of amount)) given =
    subst (λ z. IsLeastDual s.family s.edges (length s.edges) (pos (nat_of amount)) z) (sym same_delta)
    (subst (λ z. IsLeastDual s.family s.edges (length s.edges) z delta) (same_most ∙ whole)
    (subst (λ xs. IsLeastDual s.family xs (length xs) most delta) same_edges least)) in
    let is = whole_least s.family s.edges (length s.edges) (nat_of amount) given all in
    record {
      engine = engine;
      rooted = ap (λ (x : State). x.root) same ∙ rooted;
      whole = is;
      changed = record {
        near = subst (λ xs. IsNearest s.family (cost s.table) root xs (nat_of amount) event) same_edges nearest;
        least = subst (λ z. IsLeastDual s.family s.edges (length s.edges) (pos (nat_of amount)) z) is all;
      };
    }

module _ {s : State} {root : ℕ} {event : Event} {amount given : ℤ} (p : IsChangingDuals s root event amount given) where
  -- the raise may be made
  pub change : CanChangeDuals s.family (cost s.table) root s.edges (nat_of given)
  change = CanChangeDuals-changed s root p.engine p.rooted event (nat_of amount) (nat_of given) p.changed

  -- the duals of the tops may be changed by it
  pub changed_can : CanRaise s.family (outers root s.edges) (inners s.edges) (nat_of given)
  changed_can = CanRaise-engine s root (nat_of given) p.engine p.rooted change

  -- the state after it is sound
  pub changed_engine : IsEngine (after s root (nat_of given) p.engine p.rooted change)
  changed_engine = IsEngine-raised s root (nat_of given) p.engine p.rooted change
      (IsBounded-changed s root p.engine p.rooted event (nat_of amount) (nat_of given) p.changed)
