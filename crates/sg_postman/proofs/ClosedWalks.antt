-- A closed walk over every edge weighs at least all edges and a least join of the nodes of odd degree: the edges that stand
-- in it an even number of times are such a join, and stand at least twice.
use Rattle.std.proofs.Common.{◌≡◌, ◌∙◌, sym, ap, refl, ℕ, zero, suc, ◌+◌, ◌*◌, ◌<◌, ◌≤◌, eqb, cond, Bool, true, false, not, ◌&&◌, ◌||◌, List, [], ◌∷◌, count_by, sum_by, arith, pos, All}
use Rattle.std.proofs.lemmas.Bool.{eqb-true, false≢true}
use Rattle.std.proofs.lemmas.List.Elements.{All-head, All-tail}
use Rattle.std.proofs.lemmas.List.Sums.{sum_by-cons}
use Rattle.sg_base.specs.Parity.{xor, odd, parity_by, parity_below}
use Rattle.sg_base.specs.Sets.{chosen_below, holds}
use Rattle.sg_base.specs.Sums.{sum_below}
use Rattle.sg_base.proofs.ParityLaws.{odd-count_by, odd_is, parity_below-same, parity_below-xor, xor_self}
use Rattle.sg_base.proofs.RisingLists.{holds-chosen_below, chosen_below_low, chosen_below_rises}
use Rattle.sg_base.proofs.SumLaws.{sum_below-add, sum_below-le, sum_below-same, sum_below-zero, sum_below_pick, sum_by_is_sum_below}
use Rattle.sg_graph.specs.Join.{IsJoin, IsLeastJoin}
use Rattle.sg_graph.specs.Web.{Graph, degree_of, edge_count, edge_weight, ends_at, total_weight, weight_at, weight_of}
use Rattle.sg_graph.proofs.Joins.{ends_parity}
use Rattle.sg_graph.proofs.OddLists.{chosen_below-parity, chosen_below-weight, is_odd_in, odd_in-parity}
use Rattle.sg_graph.proofs.WalkEnds.{walk_below, walk_parity}
use Rattle.sg_postman.specs.Tour.{IsClosedWalk, odd_nodes}
use Rattle.sg_postman.proofs.OddNodes.{degree_parity, is_end_at}

-- how often e stands in a list
abbrev pub stands : ℕ → List ℕ → ℕ
stands e es = count_by (λ k. eqb k e) es

stands-cons : (e k : ℕ) (es : List ℕ) → stands e (k ∷ es) ≡ stands e es + cond (eqb k e) 1 0
stands-cons e k es = omega (arith, sum_by-cons (λ j. cond {A = ℕ} (eqb j e) 1 0) k es)

-- a list that holds e has it at least once
stands_some : (e : ℕ) (es : List ℕ) → holds es e ≡ true → 0 < stands e es
stands_some e [] h = absurd (false≢true h)
stands_some e (k ∷ es) h = omega (arith, stands-cons e k es, some (eqb k e) (holds es e) (stands e es) h (stands_some e es))
  where
    some : (b c : Bool) (n : ℕ) → (b || c) ≡ true → (c ≡ true → 0 < n) → 0 < n + cond b 1 0
    some b c n h rest = grind arith

-- ---- a sum over a list, told by how often each number stands in it

-- as often as before, and once more where the test is passed
pub once_more : (t : Bool) (s w v : ℕ) → (t ≡ true → v ≡ w) → (s + cond t 1 0) * w ≡ s * w + cond t v 0
once_more true s w v h = rw (h refl) (plain s w)
  where
    plain : (s w : ℕ) → (s + 1) * w ≡ s * w + w
    plain s w = grind arith
once_more false s w v h = let none : s + 0 ≡ s = omega arith in rw none (omega arith)

-- a sum over a list, by how often each edge stands in it
pub sum_by_stands : (w : ℕ → ℕ) (m : ℕ) (es : List ℕ) → All (λ e. e < m) es → sum_by w es ≡ sum_below (λ e. stands e es * w e) m
sum_by_stands w m [] low = sym (sum_below-zero (λ e. stands e [] * w e) m (λ e l. omega arith))
sum_by_stands w m (k ∷ es) low =
    let more = sum_below-same (λ e. stands e (k ∷ es) * w e) (λ e. stands e es * w e + cond (eqb k e) (w k) 0) m
    (λ e l. ap (λ n. n * w e) (stands-cons e k es) ∙ once_more (eqb k e) (stands e es) (w e) (w k) (λ t. ap w (eqb-true k e t))) in
    let added = sum_below-add (λ e. stands e es * w e) (λ e. cond (eqb k e) (w k) 0) m in
    let once = sum_below_pick (w k) k m (All-head (λ e. e < m) k es low) in
    omega (arith, sum_by-cons w k es, sum_by_stands w m es (All-tail (λ e. e < m) k es low), more, added, once)

-- ---- the edges that stand an even number of times

split : (o f : Bool) → f ≡ xor (o && f) (not o && f)
split o f = grind arith

-- what stands at least once stands once, and once more where the times are even
enough : (s w : ℕ) → 0 < s → w + cond (not (odd s)) w 0 ≤ s * w
enough zero w some = absurd (omega arith)
enough (suc zero) w some = omega arith
enough (suc (suc t)) w some =
    let most : cond {A = ℕ} (not (odd (suc (suc t)))) w 0 ≤ w = at_most (not (odd (suc (suc t)))) w in
    let e : suc (suc t) * w ≡ t * w + (w + w) = two_more t w in
    omega (arith, most, e)
  where
    at_most : (b : Bool) (w : ℕ) → cond {A = ℕ} b w 0 ≤ w
    at_most b w = grind arith

    plain : (t w : ℕ) → (t + 2) * w ≡ t * w + (w + w)
    plain t w = grind arith

    two_more : (t w : ℕ) → suc (suc t) * w ≡ t * w + (w + w)
    two_more t w = let q : t + 2 ≡ suc (suc t) = omega arith in rw (← q) (plain t w)

module _ (g : Graph) (es : List ℕ) (closed : IsClosedWalk g es) where
  abbrev is_even_in : ℕ → Bool
  is_even_in e = not (is_odd_in es e)

  abbrev evens : List ℕ
  evens = chosen_below is_even_in (edge_count g)

  low : All (λ e. e < edge_count g) es
  low = walk_below g es closed.from closed.from closed.walk

  -- they have an odd number of ends just where all edges have
  evens_parity : (x : ℕ) → parity_by (is_end_at g x) evens ≡ odd (degree_of g x)
  evens_parity x =
      chosen_below-parity is_even_in (is_end_at g x) (edge_count g)
      ∙ ap (λ b. xor b (parity_below (λ e. is_even_in e && is_end_at g x e) (edge_count g))) (sym round)
      ∙ sym (parity_below-xor (λ e. is_odd_in es e && is_end_at g x e) (λ e. is_even_in e && is_end_at g x e) (edge_count g))
      ∙ sym (parity_below-same (is_end_at g x) (λ e. xor (is_odd_in es e && is_end_at g x e) (is_even_in e && is_end_at g x e)) (edge_count g)
      (λ e l. split (is_odd_in es e) (is_end_at g x e)))
      ∙ sym (degree_parity g x)
    where
      round : parity_below (λ e. is_odd_in es e && is_end_at g x e) (edge_count g) ≡ false
      round = odd_in-parity (is_end_at g x) (edge_count g) es low ∙ walk_parity g es closed.from closed.from x closed.walk ∙ xor_self (eqb closed.from x)

  evens_join : IsJoin g (odd_nodes g) evens
  evens_join = record {
    rising = chosen_below_rises is_even_in (edge_count g);
    below = chosen_below_low is_even_in (edge_count g);
    odd_at = λ x l. odd_is (sum_by (ends_at g x) evens) ∙ ap (λ b. cond {A = ℕ} b 1 0)
        (ends_parity g x evens ∙ evens_parity x ∙ sym (holds-chosen_below (λ v. odd (degree_of g v)) g.nodes x l));
  }

  -- a closed walk over every edge weighs at least all edges and a least join
  pub closed_walk_weighs : (join : List ℕ) → IsLeastJoin g (odd_nodes g) join → total_weight g + weight_of g join ≤ weight_of g es
  closed_walk_weighs join least =
      let twice : ℕ → ℕ = λ e. cond (is_even_in e) (edge_weight g e) 0 in
      let bound = sum_below-le (λ e. edge_weight g e + twice e) (λ e. stands e es * edge_weight g e) (edge_count g) each in
      let weight = chosen_below-weight is_even_in (edge_weight g) (edge_count g) in
      let all = sum_by_is_sum_below weight_at g.edges (record { a = 0; b = 0; w = pos 0 }) in
      let added = sum_below-add (edge_weight g) twice (edge_count g) in
      omega (arith, least.least evens evens_join, weight, all, added, bound, sum_by_stands (edge_weight g) (edge_count g) es low)
    where
      each : (e : ℕ) → e < edge_count g → edge_weight g e + cond (is_even_in e) (edge_weight g e) 0 ≤ stands e es * edge_weight g e
      each e l =
          let is : odd (stands e es) ≡ is_odd_in es e = odd-count_by (λ k. eqb k e) es in
          let same : cond {A = ℕ} (is_even_in e) (edge_weight g e) 0 ≡ cond (not (odd (stands e es))) (edge_weight g e) 0 =
          ap (λ b. cond {A = ℕ} (not b) (edge_weight g e) 0) (sym is) in
          omega (arith, same, enough (stands e es) (edge_weight g e) (stands_some e es (closed.every e l)))
