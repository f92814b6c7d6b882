-- A web with the edges of a join of its odd nodes doubled: all its degrees are even, and its Euler tours are the least tours.
use Rattle.std.proofs.Common.{inl, inr, ◌≡◌, ◌⊎◌, ◌∙◌, sym, ap, ℕ, ◌+◌, ◌*◌, ◌%◌, ◌<◌, ℤ, pos, cond, Bool, true, false, List, refl, sum_by, arith}
use Rattle.sg_base.specs.Parity.{odd}
use Rattle.sg_base.specs.Sets.{holds}
use Rattle.sg_base.specs.Sums.{sum_below}
use Rattle.sg_base.proofs.MemberSums.{members_sum}
use Rattle.sg_base.proofs.ParityLaws.{odd_is}
use Rattle.sg_base.proofs.RisingLists.{holds-chosen_below}
use Rattle.sg_base.proofs.SumLaws.{sum_below-add, sum_below-same, sum_by_is_sum_below}
use Rattle.sg_graph.specs.declared.cut.Cut.{Cut}
use Rattle.sg_graph.specs.Join.{IsJoin, IsLeastJoin}
use Rattle.sg_graph.specs.OddCut.{CutsPack, odd_cut_weight}
use Rattle.sg_graph.specs.Web.{Graph, degree_of, edge_count, edge_weight, ends_at, ends_on, total_weight, weight_at, weight_of}
use Rattle.sg_graph.proofs.WalkEnds.{walk_below}
use Rattle.sg_postman.specs.declared.steps.Step.{Step}
use Rattle.sg_postman.specs.Tour.{IsLeastTour, IsTour, edges_of, end_of, odd_nodes, uses_of}
use Rattle.sg_postman.specs.Tracing.{IsEulerTour, left_of, open_ends}
use Rattle.sg_postman.proofs.ClosedWalks.{closed_walk_weighs, once_more, stands, sum_by_stands}
use Rattle.sg_postman.proofs.Trails.{times_stands, trail_walk}

even_sum : (p q : ℕ) (b : Bool) → p % 2 ≡ cond b 1 0 → q % 2 ≡ cond b 1 0 → (p + q) % 2 ≡ 0
even_sum p q true h k = grind arith
even_sum p q false h k = grind arith

once_or_twice : (n : ℕ) (b : Bool) → n ≡ 1 + cond b 1 0 → (n ≡ 1) ⊎ (n ≡ 2)
once_or_twice n true h = inr h
once_or_twice n false h = inl h

module _ (g : Graph) (join left : List ℕ) (is : IsJoin g (odd_nodes g) join)
    (copies : (e : ℕ) → e < edge_count g → left_of left e ≡ 1 + cond (holds join e) 1 0) where
  -- a sum over the copies is a sum over all edges and over the join
  copies_sum : (f : ℕ → ℕ) → sum_below (λ e. left_of left e * f e) (edge_count g) ≡ sum_below f (edge_count g) + sum_by f join
  copies_sum f =
      sum_below-same (λ e. left_of left e * f e) (λ e. f e + cond (holds join e) (f e) 0) (edge_count g)
      (λ e l. ap (λ n. n * f e) (copies e l) ∙ once_more (holds join e) 1 (f e) (f e) (λ _. refl) ∙ omega arith)
      ∙ sum_below-add f (λ e. cond (holds join e) (f e) 0) (edge_count g)
      ∙ ap (λ n. sum_below f (edge_count g) + n) (members_sum f join (edge_count g) is.below is.rising)

  -- the copies have an even number of ends at each node
  pub even_copies : (x : ℕ) → x < g.nodes → open_ends g left x % 2 ≡ 0
  even_copies x l =
      ap (λ n. n % 2) (copies_sum (ends_at g x)
      ∙ ap (λ n. n + sum_by (ends_at g x) join) (sym (sum_by_is_sum_below (ends_on x) g.edges (record { a = 0; b = 0; w = pos 0 }))))
      ∙ even_sum (degree_of g x) (sum_by (ends_at g x) join) (odd (degree_of g x)) (odd_is (degree_of g x))
      (is.odd_at x l ∙ ap (λ b. cond {A = ℕ} b 1 0) (holds-chosen_below (λ v. odd (degree_of g v)) g.nodes x l))

  module _ (ss : List Step) (euler : IsEulerTour g (left_of left) ss) where
    euler_tour : IsTour g ss
    euler_tour = record {
      steps = euler.trail;
      closed = euler.closed;
      each = λ e l. once_or_twice (uses_of e ss) (holds join e) (euler.each e l ∙ copies e l);
    }

    euler_weighs : weight_of g (edges_of ss) ≡ total_weight g + weight_of g join
    euler_weighs =
        sum_by_stands (edge_weight g) (edge_count g) (edges_of ss) (walk_below g (edges_of ss) 0 (end_of 0 ss) (trail_walk g 0 ss euler.trail))
        ∙ sum_below-same (λ e. stands e (edges_of ss) * edge_weight g e) (λ e. left_of left e * edge_weight g e) (edge_count g)
        (λ e l. ap (λ n. n * edge_weight g e) (times_stands e ss ∙ euler.each e l))
        ∙ copies_sum (edge_weight g)
        ∙ ap (λ n. n + weight_of g join) (sym (sum_by_is_sum_below weight_at g.edges (record { a = 0; b = 0; w = pos 0 })))

    -- an Euler tour of the copies is a least tour
    pub euler_least : (weight : ℤ) (cuts : List Cut) → IsLeastJoin g (odd_nodes g) join → weight ≡ pos (total_weight g + weight_of g join)
        → CutsPack g (odd_nodes g) cuts → sum_by odd_cut_weight cuts ≡ 2 * weight_of g join → IsLeastTour g weight ss cuts
    euler_least weight cuts least weighs packs tight = record {
      tour = euler_tour;
      weighs = weighs ∙ ap (λ n. pos n) (sym euler_weighs);
      least = λ es closed. omega (arith, euler_weighs, closed_walk_weighs g es closed join least);
      packs = packs;
      tight = omega (arith, euler_weighs, tight);
    }
