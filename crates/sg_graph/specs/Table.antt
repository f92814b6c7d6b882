-- Tables of distances: for each node that is reached its distance and the edge by which it was reached.
use Rattle.std.specs.Prelude.{◌≡◌, ℕ, ◌+◌, ◌<◌, ◌≤◌, ◌==◌, ◌^◌, ℤ, pos, Bool, true, cond, Option, None, Some, is_some, MatchOption, List, [], ◌∷◌, length, slice_index_or, slice_set, unsigned_abs}
use Rattle.std.specs.Option.{option_map_or}
use Rattle.sg_graph.specs.Web.{Graph, edge_weight}
use Rattle.sg_graph.specs.Walk.{IsDistance, IsReached, Leads}

-- how a node was reached: at which distance, and over which edge
pub record Route : Type 0 where
  pub distance : ℤ
  pub edge : ℕ

-- the source, and a route to each node that is reached
pub record Routes : Type 0 where
  pub source : ℕ
  pub to : List (Option Route)

-- the route to node x, if one is known
abbrev pub route_at : Routes → ℕ → Option Route
route_at t x = slice_index_or t.to x None

-- whether a route to node x is known
abbrev pub is_reached : Routes → ℕ → Bool
is_reached t x = is_some (route_at t x)

-- the distance of the node, 0 if it is not reached
abbrev pub distance_at : Routes → ℕ → ℤ
distance_at t x = option_map_or (λ r. r.distance) (route_at t x) (pos 0)

-- the same as a natural number
abbrev pub length_to : Routes → ℕ → ℕ
length_to t x = unsigned_abs (distance_at t x)

-- the edge of a route
abbrev pub route_edge : Option Route → Option ℕ
route_edge None = None
route_edge (Some r) = Some r.edge

-- the edge by which the node was reached, none for the source
abbrev pub parent_at : Routes → ℕ → Option ℕ
parent_at t x = cond (t.source == x) None (route_edge (route_at t x))

-- the route of the source itself
abbrev pub at_home : Route
at_home = record { distance = pos 0; edge = 0 }

-- what every table keeps
pub record IsTable (t : Routes) : Type 0 where
  pub few : length t.to ≤ 2 ^ 24
  pub source_in : t.source < length t.to
  pub home : route_at t t.source ≡ Some at_home

-- the table with one more node reached, or reached anew
abbrev pub with_route : Routes → ℕ → ℤ → ℕ → Routes
with_route t x distance edge =
    record { source = t.source; to = slice_set t.to x (Some (record { distance = distance; edge = edge })) }

-- following the parents from x, over these edges, comes to y
abbrev pub IsWayBack : Graph → Routes → ℕ → List ℕ → ℕ → Type 0
IsWayBack g t x [] y = x ≡ y
IsWayBack g t x (e ∷ es) y = (z : ℕ) × (parent_at t x ≡ Some e) × Leads g e z x × IsWayBack g t z es y

-- the parent edge leads from a node that is nearer by its weight
pub record IsNearer (g : Graph) (t : Routes) (x e : ℕ) : Type 0 where
  pub from : ℕ
  pub leads : Leads g e from x
  pub reached : is_reached t from ≡ true
  pub distance : length_to t from + edge_weight g e ≡ length_to t x

-- the table is one of the graph
pub record IsTableOf (g : Graph) (t : Routes) : Type 0 where
  -- it has the nodes of the graph
  pub nodes : length t.to ≡ g.nodes
  -- exactly those to which a walk leads are reached, each with the least weight of such a walk
  pub distances : (x : ℕ) → x < g.nodes → MatchOption (route_at t x) (¬ IsReached g t.source x)
      (λ r. (d : ℕ) × (r.distance ≡ pos d) × IsDistance g t.source x d)
  -- a parent is nearer by the edge's weight
  pub parents : (x e : ℕ) → x < g.nodes → parent_at t x ≡ Some e → IsNearer g t x e
  -- the parents lead back to the source in fewer steps than there are nodes
  pub back : (x : ℕ) → x < g.nodes → is_reached t x ≡ true →
      (es : List ℕ) × IsWayBack g t x es t.source × (length es < g.nodes)
