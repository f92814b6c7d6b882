-- Weighted multigraphs: nodes by number, and edges that may be parallel or join a node to itself.
use Rattle.std.specs.Prelude.{ℕ, ℤ, ◌+◌, ◌<◌, ◌≤◌, ◌≤ℤ◌, ◌==◌, ◌^◌, pos, cond, List, length, slice_index_or, slice_set, All, sum_by, unsigned_abs}
use Rattle.sg_graph.specs.declared.web.Edge.{Edge}

-- `nodes` nodes, numbered from 0, and the edges, numbered in their order
pub record Graph : Type 0 where
  pub nodes : ℕ
  pub edges : List Edge

-- the number of edges
abbrev pub edge_count : Graph → ℕ
edge_count g = length g.edges

-- edge e, and an edge without weight past the last
abbrev pub edge_at : Graph → ℕ → Edge
edge_at g e = slice_index_or g.edges e (record { a = 0; b = 0; w = pos 0 })

-- the weight of an edge, as a natural number
abbrev pub weight_at : Edge → ℕ
weight_at edge = unsigned_abs edge.w

-- the weight of edge e
abbrev pub edge_weight : Graph → ℕ → ℕ
edge_weight g e = weight_at (edge_at g e)

-- the weight of a list of edges, each counted as often as it is listed
abbrev pub weight_of : Graph → List ℕ → ℕ
weight_of g es = sum_by (edge_weight g) es

-- the weight of all edges
abbrev pub total_weight : Graph → ℕ
total_weight g = sum_by weight_at g.edges

-- the same graph, but for edge e, which has weight w
abbrev pub with_weight : Graph → ℕ → ℤ → Graph
with_weight g e w = record g { edges = slice_set g.edges e (record (edge_at g e) { w = w }) }

-- how many ends the edge has at the node; an edge to itself has two
abbrev pub ends_on : ℕ → Edge → ℕ
ends_on x edge = cond (edge.a == x) 1 0 + cond (edge.b == x) 1 0

-- how many ends edge e has at the node
abbrev pub ends_at : Graph → ℕ → ℕ → ℕ
ends_at g x e = ends_on x (edge_at g e)

-- the degree of a node: the edge ends there
abbrev pub degree_of : Graph → ℕ → ℕ
degree_of g x = sum_by (ends_on x) g.edges

-- an edge between nodes below n, of no negative weight
pub record IsEdge (n : ℕ) (edge : Edge) : Type 0 where
  pub first_end : edge.a < n
  pub second_end : edge.b < n
  pub not_negative : pos 0 ≤ℤ edge.w

-- what every weighted graph keeps: a node or more, neither nodes nor edges beyond 2^24, and not too much weight in all
pub record IsWeb (g : Graph) : Type 0 where
  pub has_node : 1 ≤ g.nodes
  pub few_nodes : g.nodes ≤ 2 ^ 24
  pub few_edges : edge_count g ≤ 2 ^ 24
  pub joined : All (IsEdge g.nodes) g.edges
  pub light : total_weight g ≤ 2 ^ 60
