-- Closed walks over every edge of a graph: the tours of the postman (Guan 1960, Edmonds and Johnson 1973).
use Rattle.std.specs.Prelude.{◌≡◌, ◌⊎◌, ℕ, ◌+◌, ◌*◌, ◌==◌, ◌<◌, ◌≤◌, ℤ, pos, true, List, [], ◌∷◌, count_by, map, sum_by}
use Rattle.sg_base.specs.Parity.{odd}
use Rattle.sg_base.specs.Sets.{chosen_below, holds}
use Rattle.sg_graph.specs.declared.cut.Cut.{Cut}
use Rattle.sg_graph.specs.OddCut.{CutsPack, odd_cut_weight}
use Rattle.sg_graph.specs.Walk.{IsWebWalk, Leads}
use Rattle.sg_graph.specs.Web.{Graph, degree_of, edge_count, total_weight, weight_of}
use Rattle.sg_postman.specs.declared.steps.Step.{Step}

-- where steps that begin at x end
abbrev pub end_of : ℕ → List Step → ℕ
end_of x [] = x
end_of x (s ∷ ss) = end_of s.to ss

-- each step leads over its edge from where the walk is
abbrev pub AreSteps : Graph → ℕ → List Step → Type 0
AreSteps g x [] = Unit {0}
AreSteps g x (s ∷ ss) = Leads g s.edge x s.to × AreSteps g s.to ss

-- the edges of the steps, in their order
abbrev pub edges_of : List Step → List ℕ
edges_of ss = map (λ s. s.edge) ss

-- how often the steps use edge e
abbrev pub uses_of : ℕ → List Step → ℕ
uses_of e ss = count_by (λ s. s.edge == e) ss

-- steps from node 0 back to it that use each edge once or twice
pub record IsTour (g : Graph) (ss : List Step) : Type 0 where
  pub steps : AreSteps g 0 ss
  pub closed : end_of 0 ss ≡ 0
  pub each : (e : ℕ) → e < edge_count g → (uses_of e ss ≡ 1) ⊎ (uses_of e ss ≡ 2)

-- a walk that ends where it began, and holds every edge
pub record IsClosedWalk (g : Graph) (es : List ℕ) : Type 0 where
  pub from : ℕ
  pub walk : IsWebWalk g from es from
  pub every : (e : ℕ) → e < edge_count g → holds es e ≡ true

-- the nodes of odd degree, rising
abbrev pub odd_nodes : Graph → List ℕ
odd_nodes g = chosen_below (λ x. odd (degree_of g x)) g.nodes

-- a tour of this weight than which no closed walk over every edge weighs less, and the odd cuts that prove it
pub record IsLeastTour (g : Graph) (weight : ℤ) (steps : List Step) (cuts : List Cut) : Type 0 where
  pub tour : IsTour g steps
  pub weighs : weight ≡ pos (weight_of g (edges_of steps))
  pub least : (es : List ℕ) → IsClosedWalk g es → weight_of g (edges_of steps) ≤ weight_of g es
  pub packs : CutsPack g (odd_nodes g) cuts
  -- the cuts weigh twice as much as the tour beyond all edges
  pub tight : sum_by odd_cut_weight cuts + 2 * total_weight g ≡ 2 * weight_of g (edges_of steps)
