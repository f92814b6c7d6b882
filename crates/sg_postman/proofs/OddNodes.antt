-- The nodes of odd degree: even in number, since each edge has two ends (Euler 1736), and rising.
use Rattle.std.proofs.Common.{◌≡◌, ℕ, ◌%◌, ◌<◌, Bool, true, false, refl, sym, ◌∙◌, ap, List, length, count_by, pos}
use Rattle.std.specs.List.{range_with_len}
use Rattle.std.proofs.lemmas.List.Sums.{length-filter}
use Rattle.sg_base.specs.Ends.{EndsBelow, is_end}
use Rattle.sg_base.specs.Parity.{odd, parity_by, parity_below}
use Rattle.sg_base.proofs.Handshake.{handshake}
use Rattle.sg_base.proofs.ParityLaws.{even_mod, odd-count_by, parity_below-none, parity_below-same}
use Rattle.sg_base.proofs.Ranges.{parity_by_range}
use Rattle.sg_base.proofs.Recounting.{All_range}
use Rattle.sg_base.proofs.RisingLists.{chosen_below_low, chosen_below_rises}
use Rattle.sg_base.proofs.SumLaws.{sum_by_is_sum_below}
use Rattle.sg_base.proofs.Tallies.{sum_by-range}
use Rattle.sg_graph.specs.Join.{AreTerminals}
use Rattle.sg_graph.specs.Web.{Graph, IsWeb, degree_of, edge_count, ends_at, ends_on}
use Rattle.sg_graph.proofs.Joins.{a_end, b_end, ends_parity}
use Rattle.sg_postman.specs.Tour.{odd_nodes}

module _ (g : Graph) where
  -- x is one end of edge e, and not both
  abbrev pub is_end_at : ℕ → ℕ → Bool
  is_end_at x e = is_end (a_end g e) (b_end g e) x

  abbrev all_edges : List ℕ
  all_edges = range_with_len 0 (edge_count g)

  -- a degree is odd where an odd number of edges has just one end at the node
  pub degree_parity : (x : ℕ) → odd (degree_of g x) ≡ parity_below (is_end_at x) (edge_count g)
  degree_parity x =
      ap odd (sum_by_is_sum_below (ends_on x) g.edges (record { a = 0; b = 0; w = pos 0 }) ∙ sym (sum_by-range (ends_at g x) (edge_count g)))
      ∙ ends_parity g x all_edges ∙ parity_by_range (is_end_at x) (edge_count g)

  module _ (web : IsWeb g) where
    ends_below : EndsBelow (a_end g) (b_end g) g.nodes all_edges
    ends_below = All_range (λ e. (a_end g e < g.nodes) × (b_end g e < g.nodes)) (edge_count g) each
      where
        each : (e : ℕ) → e < edge_count g → (a_end g e < g.nodes) × (b_end g e < g.nodes)
        each e l = let edge = web.joined e (record { a = 0; b = 0; w = pos 0 }) l in (edge.first_end, edge.second_end)

    odd_degrees : parity_below (λ x. odd (degree_of g x)) g.nodes ≡ false
    odd_degrees =
        parity_below-same (λ x. odd (degree_of g x)) (λ x. parity_by (is_end_at x) all_edges) g.nodes
        (λ x l. degree_parity x ∙ sym (parity_by_range (is_end_at x) (edge_count g)))
        ∙ sym (handshake (a_end g) (b_end g) (λ e. true) (λ x. true) g.nodes all_edges ends_below)
        ∙ parity_by_range (λ e. false) (edge_count g)
        ∙ parity_below-none (λ e. false) (edge_count g) (λ e l. refl)

    -- the nodes of odd degree are even in number
    pub odd_nodes_even : length (odd_nodes g) % 2 ≡ 0
    odd_nodes_even =
        ap (λ n. n % 2) (length-filter (λ x. odd (degree_of g x)) (range_with_len 0 g.nodes))
        ∙ even_mod (count_by (λ x. odd (degree_of g x)) (range_with_len 0 g.nodes))
        (odd-count_by (λ x. odd (degree_of g x)) (range_with_len 0 g.nodes) ∙ parity_by_range (λ x. odd (degree_of g x)) g.nodes ∙ odd_degrees)

  -- they are a rising list of nodes
  pub odd_nodes_terminals : AreTerminals g (odd_nodes g)
  odd_nodes_terminals = record {
    rising = chosen_below_rises (λ x. odd (degree_of g x)) g.nodes;
    below = chosen_below_low (λ x. odd (degree_of g x)) g.nodes;
  }
