-- What the size of a weighted graph means to regions that grow on it.
use Rattle.std.specs.Prelude.{ℕ, ◌+◌, ◌*◌}
use Rattle.sg_graph.specs.Web.{Graph, edge_count}

-- the nodes and the ends of edges, counted together
abbrev pub place_count : Graph → ℕ
place_count g = g.nodes + 2 * edge_count g
