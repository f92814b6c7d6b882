-- What the moats are drawn from: a table of distances for each terminal, which give the costs of pairs.
use Rattle.std.specs.Prelude.{◌≡◌, ℕ, ◌*◌, ◌<◌, List, [], length, slice_index, slice_index_or, All}
use Rattle.sg_graph.specs.Web.{Graph}
use Rattle.sg_graph.specs.Table.{IsTableOf, Routes, length_to}

-- what is read past the last table
abbrev pub blank_table : Routes
blank_table = record { source = 0; to = [] }

-- the table of terminal i
abbrev pub table_at : List Routes → ℕ → Routes
table_at tables i = slice_index_or tables i blank_table

-- the distance of node x from terminal i, as its table has it
abbrev pub distance_from : List Routes → ℕ → ℕ → ℕ
distance_from tables i x = length_to (table_at tables i) x

-- a table of the graph for each terminal, with the terminal as its source
pub record AreTerminalTables (g : Graph) (terminals : List ℕ) (tables : List Routes) : Type 0 where
  pub count : length tables ≡ length terminals
  pub each : All (IsTableOf g) tables
  pub sources : (i : ℕ) → i < length terminals → (table_at tables i).source ≡ slice_index terminals i

-- what it costs to pair two terminals: twice their distance
abbrev pub terminal_cost : List ℕ → List Routes → ℕ → ℕ → ℕ
terminal_cost terminals tables i j = 2 * distance_from tables i (slice_index terminals j)
