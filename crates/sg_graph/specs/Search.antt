-- A search from node 0: marks on the nodes found, and a list of them.
use Rattle.std.specs.Prelude.{◌≡◌, ◌⊎◌, ◌↔◌, ℕ, ◌+◌, ◌<◌, ◌≤◌, Bool, true, cond, List, length, slice_index, sum_by, All, Contains}
use Rattle.sg_base.specs.Sets.{is_marked}
use Rattle.sg_graph.specs.Web.{Graph, edge_at}
use Rattle.sg_graph.specs.Walk.{IsReached, Leads, other_end}

-- exactly the nodes that a walk reaches from node 0 are marked
pub record MarksReached (g : Graph) (marks : List Bool) : Type 0 where
  pub count : length marks ≡ g.nodes
  pub right : (x : ℕ) → x < g.nodes → (is_marked marks x ≡ true) ↔ IsReached g 0 x

-- how many nodes are not marked
abbrev pub unmarked : List Bool → ℕ
unmarked marks = sum_by (λ b. cond b 0 1) marks

-- the far ends of these edges at the node are marked, and those that were not before are noted
pub record VisitsEdges (g : Graph) (node : ℕ) (edges : List ℕ) (old new : List Bool)
    (before after : List ℕ) : Type 0 where
  pub count : length new ≡ length old
  pub kept : (x : ℕ) → is_marked old x ≡ true → is_marked new x ≡ true
  pub longer : length before ≤ length after
  pub stays : (k : ℕ) → k < length before → slice_index after k ≡ slice_index before k
  pub sound : (x : ℕ) → is_marked new x ≡ true → (is_marked old x ≡ true) ⊎ ((e : ℕ) × Leads g e node x)
  pub listed : (x : ℕ) → is_marked new x ≡ true → (is_marked old x ≡ true) ⊎ Contains after x
  pub noted : All (λ x. is_marked old x ≡ true) before → All (λ x. is_marked new x ≡ true) after
  pub spread : All (λ e. is_marked new (other_end node (edge_at g e)) ≡ true) edges
  pub total : length after + unmarked new ≡ length before + unmarked old
