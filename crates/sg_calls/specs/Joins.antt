-- Minimum T-joins as they cross: one with the nest that proves it, what a caller states to be one, and those of many
-- lists of terminals.
use Rattle.std.specs.Prelude.{◌≡◌, ◌↔◌, ℕ, ℤ, pos, ◌<◌, ◌%◌, None, Option, IfSome, List, length, map}
use Rattle.sg_graph.specs.Incidence.{list_at}
use Rattle.sg_graph.specs.Join.{AreTerminals, IsLeastJoin}
use Rattle.sg_graph.specs.Web.{Graph, weight_of}
use Rattle.sg_nest.specs.Nest.{NestProves}
use Rattle.sg_nest.specs.declared.nest.Nest.{Nest}
use Rattle.sg_tjoin.specs.Allowance.{table_bytes}
use Rattle.sg_calls.specs.Crossing.{IsJoined, Shows}
use Rattle.sg_calls.specs.Proofs.{NestLists, lists_fault, nest_said}

-- a minimum T-join with its weight, and perhaps a nest that proves it, have crossed so
pub record IsMinimumJoin (g : Graph) (terminals : List ℕ) (weight : ℤ)
    (Crosses : List ℕ → Option Nest → Type 0) : Type 0 where
  pub edges : List ℕ
  pub nest : Option Nest
  pub least : IsLeastJoin g terminals edges
  pub weighs : weight ≡ pos (weight_of g edges)
  pub proves : IfSome nest (NestProves g terminals edges)
  pub crossed : Crosses edges nest

-- the four lists pass their tests; and whether the edges and the nest that they say prove a minimum T-join
pub record IsJoinVerdict (g : Graph) (terminals edges : List ℕ) (lists : NestLists) (code : ℕ) : Type 0 where
  pub passes : lists_fault lists ≡ None
  pub proves : (code ≡ 0) ↔ NestProves g terminals edges (nest_said lists)
  pub least : code ≡ 0 → IsLeastJoin g terminals edges

-- each list has an even number of nodes of the graph, strictly rising
pub record AreTerminalLists (g : Graph) (lists : List (List ℕ)) : Type 0 where
  pub nodes : (i : ℕ) → i < length lists → AreTerminals g (list_at lists i)
  pub even : (i : ℕ) → i < length lists → length (list_at lists i) % 2 ≡ 0

-- a minimum T-join of each list of terminals
pub record AreLeastJoins (g : Graph) (lists joins : List (List ℕ)) : Type 0 where
  pub count : length joins ≡ length lists
  pub each : (i : ℕ) → i < length lists → IsLeastJoin g (list_at lists i) (list_at joins i)

-- the weight of each list of edges
abbrev pub join_weights : Graph → List (List ℕ) → List ℤ
join_weights g joins = map (λ join. pos (weight_of g join)) joins

-- for some list of terminals the tables take more bytes than are allowed
pub record SomeTablesExceed (most_bytes : ℕ) (lists : List (List ℕ)) (nodes : ℕ) : Type 0 where
  pub list : ℕ
  pub within : list < length lists
  pub exceed : most_bytes < table_bytes (length (list_at lists list)) nodes

-- three lists: the weights of T-joins, the place of the first edge of each with the number of all after, and all edges
pub record JoinLists : Type 0 where
  pub weights : List ℤ
  pub starts : List ℕ
  pub edges : List ℕ

-- the same, list by list
abbrev pub join_lists : List ℤ → List ℕ → List ℕ → JoinLists
join_lists weights starts edges = record { weights = weights; starts = starts; edges = edges }

-- T-joins as three lists
pub record AreJoinRows (g : Graph) (lists : JoinLists) (joins : List (List ℕ)) : Type 0 where
  pub weighed : lists.weights ≡ join_weights g joins
  pub joined : IsJoined (λ join. join) joins lists.starts lists.edges

-- the three lists are those of a minimum T-join of each list of terminals
pub record HasJoinRows (g : Graph) (terminals : List (List ℕ)) (lists : JoinLists) : Type 0 where
  pub joins : List (List ℕ)
  pub least : AreLeastJoins g terminals joins
  pub rows : AreJoinRows g lists joins

-- such lists have crossed into places of a caller, with the number of all edges
pub record HandsJoins (g : Graph) (terminals : List (List ℕ)) (before after : JoinLists)
    (edge_count : ℕ) : Type 0 where
  pub lists : JoinLists
  pub rows : HasJoinRows g terminals lists
  pub shows_weights : Shows lists.weights before.weights after.weights
  pub shows_starts : Shows lists.starts before.starts after.starts
  pub shows_edges : Shows lists.edges before.edges after.edges
  pub counts_edges : edge_count ≡ length lists.edges
