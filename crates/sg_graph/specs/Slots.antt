-- What the two lists of a table say: a route to each node, but for a node that is marked as not reached.
use Rattle.std.specs.Prelude.{ℕ, ◌==◌, ℤ, cond, Option, None, Some, List, [], ◌∷◌}
use Rattle.sg_graph.specs.Table.{Route}

-- what is in the place of an edge if the node is not reached: the largest number of 32 bits, which is no edge of a
-- graph
abbrev pub unreached : ℕ
unreached = 4294967295

-- the route with this distance and last edge, and none if the edge says that no route is known
abbrev pub route_of : ℤ → ℕ → Option Route
route_of distance edge = cond (edge == unreached) None (Some (record { distance = distance; edge = edge }))

-- the distance and the edge at one place make the route of that node
abbrev pub routes_of : List ℤ → List ℕ → List (Option Route)
routes_of [] edges = []
routes_of (d ∷ ds) [] = []
routes_of (d ∷ ds) (e ∷ es) = route_of d e ∷ routes_of ds es
