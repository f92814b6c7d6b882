-- Joins of a set of terminals (Edmonds and Johnson 1973): edges of odd degree exactly at the terminals.
use Rattle.std.specs.Prelude.{◌≡◌, ℕ, ◌%◌, ◌<◌, ◌≤◌, cond, List, All, sum_by}
use Rattle.std.specs.List.Sorted.{IsStrictlyIncreasing}
use Rattle.sg_base.specs.Sets.{holds}
use Rattle.sg_graph.specs.Web.{Graph, edge_count, ends_at, weight_of}

-- a strictly rising list of nodes
pub record AreTerminals (g : Graph) (terminals : List ℕ) : Type 0 where
  pub rising : IsStrictlyIncreasing terminals
  pub below : All (λ t. t < g.nodes) terminals

-- a strictly rising list of edges that meets a node an odd number of times exactly if it is a terminal
pub record IsJoin (g : Graph) (terminals edges : List ℕ) : Type 0 where
  pub rising : IsStrictlyIncreasing edges
  pub below : All (λ e. e < edge_count g) edges
  pub odd_at : (x : ℕ) → x < g.nodes → sum_by (ends_at g x) edges % 2 ≡ cond (holds terminals x) 1 0

-- a minimum T-join: a T-join, and no T-join weighs less
pub record IsLeastJoin (g : Graph) (terminals edges : List ℕ) : Type 0 where
  pub join : IsJoin g terminals edges
  pub least : (others : List ℕ) → IsJoin g terminals others → weight_of g edges ≤ weight_of g others
