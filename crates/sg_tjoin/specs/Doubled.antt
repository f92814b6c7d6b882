-- Costs of the terminals: twice their distances, as tables from each of them have them.
use Rattle.std.specs.Prelude.{◌≡◌, ℕ, ◌+◌, ◌*◌, ◌%◌, ◌<◌, ◌≤◌, ◌^◌, pos, true, List, length, slice_index, All}
use Rattle.sg_base.specs.Limits.{cost_limit}
use Rattle.sg_graph.specs.Table.{Routes, distance_at, is_reached, length_to}
use Rattle.sg_slack.specs.Table.{Table, cost_of}
use Rattle.sg_moat.specs.Input.{distance_from, table_at, terminal_cost}

-- the distance of two terminals, given by their places
abbrev pub apart : List ℕ → List Routes → ℕ → ℕ → ℕ
apart terminals tables i j = distance_from tables i (slice_index terminals j)

-- the table has the node's distance, and twice this is a cost that an engine takes
pub record Reaches (t : Routes) (x : ℕ) : Type 0 where
  pub low : x < length t.to
  pub reached : is_reached t x ≡ true
  pub whole : distance_at t x ≡ pos (length_to t x)
  pub near : 2 * length_to t x ≤ cost_limit

-- an even number of terminals whose distances are those of a metric space
pub record AreMetric (terminals : List ℕ) (tables : List Routes) : Type 0 where
  pub even : length terminals % 2 ≡ 0
  pub few : length terminals ≤ 2 ^ 24
  pub count : length tables ≡ length terminals
  pub reaches : (i : ℕ) → i < length terminals → All (Reaches (table_at tables i)) terminals
  pub symmetric : (i j : ℕ) → i < length terminals → j < length terminals
      → apart terminals tables i j ≡ apart terminals tables j i
  pub diagonal : (i : ℕ) → i < length terminals → apart terminals tables i i ≡ 0
  pub triangle : (i j k : ℕ) → i < length terminals → j < length terminals → k < length terminals →
      apart terminals tables i k ≤ apart terminals tables i j + apart terminals tables j k

-- the costs of terminal i and the first few others, both ways; the costs of two terminals before i stay
pub record FillsRow (terminals : List ℕ) (t : Routes) (i upto : ℕ) (old new : Table) : Type 0 where
  pub size : new.size ≡ old.size
  pub forth : (j : ℕ) → j < upto → cost_of new i j ≡ pos (2 * length_to t (slice_index terminals j))
  pub back : (j : ℕ) → j < upto → cost_of new j i ≡ pos (2 * length_to t (slice_index terminals j))
  pub before : (a b : ℕ) → a < i → b < i → cost_of new a b ≡ cost_of old a b
  pub diagonal : (a : ℕ) → a < old.size → cost_of new a a ≡ cost_of old a a

-- the costs of the first few terminals, each two by the table of the later one
pub record FillsRows (terminals : List ℕ) (tables : List Routes) (upto : ℕ) (t : Table) : Type 0 where
  pub size : t.size ≡ length terminals
  pub forth : (i j : ℕ) → i < upto → j < i → cost_of t i j ≡ pos (terminal_cost terminals tables i j)
  pub back : (i j : ℕ) → i < upto → j < i → cost_of t j i ≡ pos (terminal_cost terminals tables i j)
  pub diagonal : (i : ℕ) → i < length terminals → cost_of t i i ≡ pos 0
