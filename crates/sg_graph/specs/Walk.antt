-- Walks in a graph, and the distances that they give.
use Rattle.std.specs.Prelude.{◌≡◌, ◌==◌, ◌⊎◌, ℕ, ◌<◌, ◌≤◌, cond, List, [], ◌∷◌}
use Rattle.sg_graph.specs.declared.web.Edge.{Edge}
use Rattle.sg_graph.specs.Web.{Graph, edge_at, edge_count, weight_of}

-- edge e leads from x to y, one way or the other
pub record Leads (g : Graph) (e x y : ℕ) : Type 0 where
  pub below : e < edge_count g
  pub ways : (((edge_at g e).a ≡ x) × ((edge_at g e).b ≡ y)) ⊎ (((edge_at g e).a ≡ y) × ((edge_at g e).b ≡ x))

-- the edges lead one after another from x to y
abbrev pub IsWebWalk : Graph → ℕ → List ℕ → ℕ → Type 0
IsWebWalk g x [] y = x ≡ y
IsWebWalk g x (e ∷ es) y = (z : ℕ) × Leads g e x z × IsWebWalk g z es y

-- some walk leads from x to y
abbrev pub IsReached : Graph → ℕ → ℕ → Type 0
IsReached g x y = (es : List ℕ) × IsWebWalk g x es y

-- each node is reached from node 0
abbrev pub IsConnectedWeb : Graph → Type 0
IsConnectedWeb g = (x : ℕ) → x < g.nodes → IsReached g 0 x

-- x is a node that is not reached from node 0, and each node before it is
pub record IsFirstUnreached (g : Graph) (x : ℕ) : Type 0 where
  pub node : x < g.nodes
  pub unreached : ¬ IsReached g 0 x
  pub before : (y : ℕ) → y < x → IsReached g 0 y

-- some walk from x to y weighs d, and none weighs less
pub record IsDistance (g : Graph) (x y d : ℕ) : Type 0 where
  pub reached : (es : List ℕ) × IsWebWalk g x es y × (weight_of g es ≡ d)
  pub least : (es : List ℕ) → IsWebWalk g x es y → d ≤ weight_of g es

-- the end of the edge away from x; x itself for an edge to itself
abbrev pub other_end : ℕ → Edge → ℕ
other_end x edge = cond (edge.a == x) edge.b edge.a
