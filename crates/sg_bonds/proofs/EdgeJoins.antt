-- A least join without an edge, where the edge weighs whatever it may, is with the edge, or as it is, the least among the joins that have
-- the edge, or that do not.
use Rattle.sg_bonds.proofs.Common.{inl, inr, ◌≡◌, ◌≢◌, ℕ, ◌+◌, ◌<◌, ◌≤◌, ℤ, pos, Bool, true, false, cond, ◌&&◌, eqb, List, refl, sym, ◌∙◌, ap, ap₂, arith, set}
use Rattle.sg_bonds.proofs.Common.{sum_by, unsigned_abs, eq-eqb, eqb-true, get_or-set_other, get_or-set_same, length-set, set-set, cases_eq, false≢true}
use Rattle.sg_bonds.proofs.Common.{set-get_or, chosen_below, holds, Graph, edge_at, edge_count, edge_weight, ends_at, total_weight, weight_at, weight_of, with_weight}
use Rattle.std.proofs.lemmas.List.Sums.{sum_by-set}
use Rattle.sg_base.specs.Parity.{xor, parity_below}
use Rattle.sg_base.specs.Sums.{sum_below}
use Rattle.sg_base.specs.Ends.{is_end}
use Rattle.sg_base.proofs.MemberSums.{members_sum}
use Rattle.sg_base.proofs.ParityLaws.{odd_is, parity_below-same, parity_below-xor, parity_below_pick, xor-false, xor_comm}
use Rattle.sg_base.proofs.RisingLists.{chosen_below_low, chosen_below_rises, holds-chosen_below, members_parity}
use Rattle.sg_base.proofs.SumLaws.{sum_below-add, sum_below-same, sum_below_pick}
use Rattle.sg_graph.specs.declared.web.Edge.{Edge}
use Rattle.sg_graph.specs.Join.{IsJoin, IsLeastJoin}
use Rattle.sg_graph.proofs.Joins.{ends_parity, odd_from_cond}
use Rattle.sg_graph.proofs.OddLists.{chosen_below-parity, chosen_below-weight}
use Rattle.sg_bonds.specs.JoinsWith.{IsLeastJoinWith, turned_at, with_edge}

and_turned : (x y : Bool) → (x && y) ≡ (y && x)
and_turned x y = grind arith

-- what changes where one member is put in or taken out
changed : (b n s t h : Bool) → (b ≡ true → xor s n ≡ h) → (cond b n s && t) ≡ xor ((h && t) && b) (s && t)
changed b n s t h p = grind arith

xor_back : (a t : Bool) → xor a (xor t a) ≡ t
xor_back a t = grind arith

-- joins in the words of parities
module _ (h : Graph) (terminals : List ℕ) where
  abbrev meets : ℕ → ℕ → Bool
  meets x e = is_end (edge_at h e).a (edge_at h e).b x

  parity_of_join : (es : List ℕ) → IsJoin h terminals es → (x : ℕ) → x < h.nodes →
      parity_below (λ e. holds es e && is_end (edge_at h e).a (edge_at h e).b x) (edge_count h) ≡ holds terminals x
  parity_of_join es join x l =
      parity_below-same (λ e. holds es e && meets x e) (λ e. meets x e && holds es e) (edge_count h) (λ e _. and_turned (holds es e) (meets x e))
      ∙ members_parity (meets x) es (edge_count h) join.below join.rising
      ∙ sym (ends_parity h x es)
      ∙ odd_from_cond h (sum_by (ends_at h x) es) (holds terminals x) (join.odd_at x l)

  join_by_parity : (q : ℕ → Bool) →
      ((x : ℕ) → x < h.nodes → parity_below (λ e. q e && is_end (edge_at h e).a (edge_at h e).b x) (edge_count h) ≡ holds terminals x) →
      IsJoin h terminals (chosen_below q (edge_count h))
  join_by_parity q odd = record {
    rising = chosen_below_rises q (edge_count h);
    below = chosen_below_low q (edge_count h);
    odd_at = λ x l.
        odd_is (sum_by (ends_at h x) (chosen_below q (edge_count h)))
        ∙ ap (λ b. cond {A = ℕ} b 1 0) (ends_parity h x (chosen_below q (edge_count h)) ∙ chosen_below-parity q (meets x) (edge_count h) ∙ odd x l);
  }

-- the weight at a place, by whether the number there is the one
part : (b h s : Bool) (v u c : ℕ) → (b ≡ true → (s ≡ h) × (v ≡ c)) → (b ≡ false → v ≡ u) → cond s v 0 ≡ cond b (cond h c 0) 0 + cond (cond b false s) u 0
part b h s v u c p q = grind arith

module _ (g : Graph) (k : ℕ) (inside : k < edge_count g) (w : ℤ) where
  abbrev heavy : Graph
  heavy = with_weight g k w

  same_count : edge_count (with_weight g k w) ≡ edge_count g
  same_count = length-set g.edges k (record (edge_at g k) { w = w })

  other_edge : (e : ℕ) → e ≢ k → edge_at (with_weight g k w) e ≡ edge_at g e
  other_edge e ne = get_or-set_other g.edges k e (record (edge_at g k) { w = w }) (record { a = 0; b = 0; w = pos 0 }) ne

  this_edge : edge_at (with_weight g k w) k ≡ record (edge_at g k) { w = w }
  this_edge = get_or-set_same g.edges k (record (edge_at g k) { w = w }) (record { a = 0; b = 0; w = pos 0 }) inside

  same_meets : (x e : ℕ) → is_end (edge_at (with_weight g k w) e).a (edge_at (with_weight g k w) e).b x ≡ is_end (edge_at g e).a (edge_at g e).b x
  same_meets x e = elim (cases_eq e k) [
    | inl same ↦ rw same (ap (λ (d : Edge). is_end d.a d.b x) this_edge)
    | inr ne ↦ ap (λ (d : Edge). is_end d.a d.b x) (other_edge e ne)
  ]

  -- the same edges meet a node in both webs
  same_parity : (q : ℕ → Bool) (x : ℕ) →
      parity_below (λ e. q e && is_end (edge_at (with_weight g k w) e).a (edge_at (with_weight g k w) e).b x) (edge_count (with_weight g k w))
      ≡ parity_below (λ e. q e && is_end (edge_at g e).a (edge_at g e).b x) (edge_count g)
  same_parity q x =
      ap (parity_below (λ e. q e && is_end (edge_at (with_weight g k w) e).a (edge_at (with_weight g k w) e).b x)) same_count
      ∙ parity_below-same (λ e. q e && is_end (edge_at (with_weight g k w) e).a (edge_at (with_weight g k w) e).b x)
      (λ e. q e && is_end (edge_at g e).a (edge_at g e).b x) (edge_count g) (λ e _. ap (λ b. q e && b) (same_meets x e))

  -- the web as it was, with the old weight put back
  pub weight_back : (z : ℤ) → z ≡ (edge_at g k).w → with_weight (with_weight g k w) k z ≡ g
  weight_back z back =
      ap (λ (d : Edge). let h : Graph = record g { edges = set (with_weight g k w).edges k (record d { w = z }) } in h) this_edge
      ∙ ap (λ (es : List Edge). let h : Graph = record g { edges = es } in h)
      (set-set g.edges k (record (edge_at g k) { w = w }) (record (edge_at g k) { w = z })
      ∙ ap (λ z. set g.edges k (record (edge_at g k) { w = z })) back
      ∙ set-get_or g.edges k (record { a = 0; b = 0; w = pos 0 }))

  -- it weighs no more than it did with the new weight
  pub heavy_light : total_weight (with_weight g k w) ≤ total_weight g + unsigned_abs w
  heavy_light = omega (arith, sum_by-set weight_at g.edges k (record (edge_at g k) { w = w }) (record { a = 0; b = 0; w = pos 0 }) inside)

  module _ (terminals : List ℕ) (has : Bool) where
    abbrev at_ends : ℕ → Bool
    at_ends x = has && is_end (edge_at g k).a (edge_at g k).b x

    abbrev turned : List ℕ
    turned = turned_at g terminals k has

    turned_holds : (x : ℕ) → x < g.nodes → holds (turned_at g terminals k has) x ≡ xor (holds terminals x) (has && is_end (edge_at g k).a (edge_at g k).b x)
    turned_holds x l = holds-chosen_below (λ x. xor (holds terminals x) (at_ends x)) g.nodes x l

    -- how the ends at a node change with edge k
    parity_changed : (es : List ℕ) (n : Bool) (x : ℕ) → xor (holds es k) n ≡ has →
        parity_below (λ e. cond (eqb k e) n (holds es e) && is_end (edge_at g e).a (edge_at g e).b x) (edge_count g)
        ≡ xor (has && is_end (edge_at g k).a (edge_at g k).b x) (parity_below (λ e. holds es e && is_end (edge_at g e).a (edge_at g e).b x) (edge_count g))
    parity_changed es n x p =
        parity_below-same (λ e. cond (eqb k e) n (holds es e) && meets g terminals x e)
        (λ e. xor ((has && meets g terminals x e) && eqb k e) (holds es e && meets g terminals x e)) (edge_count g)
        (λ e _. changed (eqb k e) n (holds es e) (meets g terminals x e) has (λ same. ap (λ y. xor (holds es y) n) (sym (eqb-true k e same)) ∙ p))
        ∙ parity_below-xor (λ e. (has && meets g terminals x e) && eqb k e) (λ e. holds es e && meets g terminals x e) (edge_count g)
        ∙ ap (λ b. xor b (parity_below (λ e. holds es e && meets g terminals x e) (edge_count g)))
        (parity_below_pick (λ e. has && meets g terminals x e) k (edge_count g) inside)

    weight_below : (es : List ℕ) → IsJoin g terminals es → weight_of g es ≡ sum_below (λ e. cond (holds es e) (edge_weight g e) 0) (edge_count g)
    weight_below es join = sym (members_sum (edge_weight g) es (edge_count g) join.below join.rising)

    other_weight : (e : ℕ) → eqb k e ≡ false → edge_weight g e ≡ edge_weight (with_weight g k w) e
    other_weight e p = ap weight_at (sym (other_edge e (λ (same : e ≡ k). false≢true (sym p ∙ eq-eqb k e (sym same)))))

    -- the weight of edges of which edge k is one, as is said, by that of the others
    split_weight : (f : ℕ → Bool) → f k ≡ has → sum_below (λ e. cond (f e) (edge_weight g e) 0) (edge_count g)
        ≡ cond has (edge_weight g k) 0
        + sum_below (λ e. cond (cond (eqb k e) false (f e)) (edge_weight (with_weight g k w) e) 0) (edge_count (with_weight g k w))
    split_weight f here =
        sum_below-same (λ e. cond (f e) (edge_weight g e) 0)
        (λ e. cond (eqb k e) (cond has (edge_weight g k) 0) 0 + cond (cond (eqb k e) false (f e)) (edge_weight heavy e) 0) (edge_count g)
        (λ e _. part (eqb k e) has (f e) (edge_weight g e) (edge_weight heavy e) (edge_weight g k)
        (λ same. (ap f (sym (eqb-true k e same)) ∙ here, ap (edge_weight g) (sym (eqb-true k e same)))) (other_weight e))
        ∙ sum_below-add (λ e. cond (eqb k e) (cond has (edge_weight g k) 0) 0) (λ e. cond (cond (eqb k e) false (f e)) (edge_weight heavy e) 0) (edge_count g)
        ∙ ap₂ (λ x y. x + y) (sum_below_pick (cond has (edge_weight g k) 0) k (edge_count g) inside)
        (ap (sum_below (λ e. cond (cond (eqb k e) false (f e)) (edge_weight heavy e) 0)) (sym same_count))

    -- a join that has the edge as is said, without the edge
    module _ (others : List ℕ) (join : IsJoin g terminals others) (side : holds others k ≡ has) where
      abbrev rest : ℕ → Bool
      rest e = cond (eqb k e) false (holds others e)

      rest_join : IsJoin (with_weight g k w) (turned_at g terminals k has)
          (chosen_below (λ e. cond (eqb k e) false (holds others e)) (edge_count (with_weight g k w)))
      rest_join = join_by_parity (with_weight g k w) (turned_at g terminals k has) rest (λ x l. (
          same_parity rest x
          ∙ parity_changed others false x (ap (λ b. xor b false) side ∙ xor-false has)
          ∙ ap (xor (at_ends x)) (parity_of_join g terminals others join x l)
          ∙ xor_comm (at_ends x) (holds terminals x)
          ∙ sym (turned_holds x l)))

      rest_weight : weight_of g others
          ≡ cond has (edge_weight g k) 0 + weight_of (with_weight g k w)
          (chosen_below (λ e. cond (eqb k e) false (holds others e)) (edge_count (with_weight g k w)))
      rest_weight =
          let chosen = chosen_below-weight rest (edge_weight heavy) (edge_count heavy) in
          omega (arith, weight_below others join, split_weight (holds others) side, chosen)

    -- a join of the turned terminals that has not the edge, with the edge as is said
    module _ (edges : List ℕ) (least : IsLeastJoin (with_weight g k w) (turned_at g terminals k has) edges) (bare : holds edges k ≡ false) where
      whole_join : IsJoin g terminals (with_edge g edges k has)
      whole_join = join_by_parity g terminals (λ e. cond (eqb k e) has (holds edges e)) (λ x l. (
          parity_changed edges has x (ap (λ b. xor b has) bare)
          ∙ ap (xor (at_ends x)) (sym (same_parity (holds edges) x) ∙ parity_of_join heavy turned edges least.join x l ∙ turned_holds x l)
          ∙ xor_back (at_ends x) (holds terminals x)))

      whole_side : holds (with_edge g edges k has) k ≡ has
      whole_side =
          holds-chosen_below (λ e. cond (eqb k e) has (holds edges e)) (edge_count g) k inside
          ∙ ap (λ b. cond b has (holds edges k)) (eq-eqb k k refl)

      whole_rest : (e : ℕ) → cond (eqb k e) false (cond (eqb k e) has (holds edges e)) ≡ holds edges e
      whole_rest e = grind (arith, eqb-true k e, bare)

      whole_weight : weight_of g (with_edge g edges k has) ≡ cond has (edge_weight g k) 0 + weight_of (with_weight g k w) edges
      whole_weight =
          let chosen = chosen_below-weight (λ e. cond (eqb k e) has (holds edges e)) (edge_weight g) (edge_count g) in
          let split = split_weight (λ e. cond (eqb k e) has (holds edges e)) (ap (λ b. cond b has (holds edges k)) (eq-eqb k k refl)) in
          let others = sum_below-same (λ e. cond (cond (eqb k e) false (cond (eqb k e) has (holds edges e))) (edge_weight heavy e) 0)
          (λ e. cond (holds edges e) (edge_weight heavy e) 0) (edge_count heavy) (λ e _. ap (λ s. cond s (edge_weight heavy e) 0) (whole_rest e))
          ∙ members_sum (edge_weight heavy) edges (edge_count heavy) least.join.below least.join.rising in
          omega (arith, chosen, split, others)

      -- with the edge put in, or left out, the join is least among those like it
      pub least_with_edge : IsLeastJoinWith g terminals k has (with_edge g edges k has)
      least_with_edge = record {
        join = whole_join;
        side = whole_side;
        least = λ others join side.
            let light = least.least (chosen_below (rest others join side) (edge_count heavy)) (rest_join others join side) in
            omega (arith, light, whole_weight, rest_weight others join side);
      }
