-- A search for distances (Dijkstra 1959): a table of the nodes found, and a heap of candidates for the others.
use Rattle.std.specs.Prelude.{◌≡◌, ℕ, ◌+◌, ◌<◌, ◌≤◌, pos, true, false, ◌&&◌, cond, is_some, Some, List, map, length, All, Contains, count_by, sum_by}
use Rattle.std.specs.declared.cmp.Reverse.{Reverse}
use Rattle.sg_graph.specs.declared.web.Edge.{Edge}
use Rattle.sg_graph.specs.Web.{Graph, edge_weight, weight_at}
use Rattle.sg_graph.specs.Walk.{IsDistance, Leads}
use Rattle.sg_graph.specs.Table.{IsNearer, IsWayBack, Routes, distance_at, is_reached, length_to, parent_at}
use Rattle.sg_dist.specs.declared.candidate.Candidate.{Candidate}

-- the candidate that edge e gives from v to u
abbrev pub candidate_over : Graph → Routes → ℕ → ℕ → ℕ → Candidate
candidate_over g t v e u = record { distance = length_to t v + edge_weight g e; node = u; edge = e }

-- its last edge leads from a node found, and its distance is that node's and the edge's weight
pub record IsCandidate (g : Graph) (t : Routes) (c : Candidate) : Type 0 where
  pub from : ℕ
  pub reached : is_reached t from ≡ true
  pub leads : Leads g c.edge from c.node
  pub distance : c.distance ≡ length_to t from + edge_weight g c.edge

-- the candidates of a heap, whose greatest element is the least of them
abbrev pub candidates : List (Reverse Candidate) → List Candidate
candidates xs = map (λ x. x.0) xs

-- how many nodes are found
abbrev pub reached_count : Routes → ℕ
reached_count t = count_by (λ r. is_some r) t.to

-- the edge's weight if both of its ends are found
abbrev pub inner_at : Routes → Edge → ℕ
inner_at t edge = cond (is_reached t edge.a && is_reached t edge.b) (weight_at edge) 0

-- the weight of all edges with both ends reached
abbrev pub inner_weight : Graph → Routes → ℕ
inner_weight g t = sum_by (inner_at t) g.edges

-- what was found is right
pub record FindsNearest (g : Graph) (t : Routes) : Type 0 where
  pub count : length t.to ≡ g.nodes
  pub home : is_reached t t.source ≡ true
  pub home_distance : length_to t t.source ≡ 0
  pub signed : (x : ℕ) → is_reached t x ≡ true → distance_at t x ≡ pos (length_to t x)
  pub right : (x : ℕ) → is_reached t x ≡ true → IsDistance g t.source x (length_to t x)
  pub light : (x : ℕ) → is_reached t x ≡ true → length_to t x ≤ inner_weight g t
  pub parents : (x e : ℕ) → parent_at t x ≡ Some e → IsNearer g t x e
  pub back : (x : ℕ) → is_reached t x ≡ true →
      (es : List ℕ) × IsWayBack g t x es t.source × (length es < reached_count t)

-- the heap has candidates alone, and none is nearer than what was found
pub record Waits (g : Graph) (t : Routes) (heap : List Candidate) : Type 0 where
  pub candidates : All (IsCandidate g t) heap
  pub order : (x : ℕ) → is_reached t x ≡ true → All (λ c. length_to t x ≤ c.distance) heap

-- over edge e from v each node that is not found has its candidate
abbrev pub IsSpread : Graph → Routes → List Candidate → ℕ → ℕ → Type 0
IsSpread g t heap v e = (u : ℕ) → Leads g e v u → is_reached t u ≡ false → Contains heap (candidate_over g t v e u)

-- between two steps: all edges from the nodes found are spread
pub record Searches (g : Graph) (t : Routes) (heap : List Candidate) : Type 0 where
  pub finds : FindsNearest g t
  pub waiting : Waits g t heap
  pub frontier : (v e : ℕ) → is_reached t v ≡ true → IsSpread g t heap v e

-- while the latest node is spread: of its edges only those of `done` are
pub record Spreads (g : Graph) (t : Routes) (heap : List Candidate) (node : ℕ) (done : List ℕ) : Type 0 where
  pub finds : FindsNearest g t
  pub waiting : Waits g t heap
  pub here : is_reached t node ≡ true
  pub latest : (x : ℕ) → is_reached t x ≡ true → length_to t x ≤ length_to t node
  pub frontier : (v e : ℕ) → is_reached t v ≡ true → (v ≡ node → Contains done e) → IsSpread g t heap v e
