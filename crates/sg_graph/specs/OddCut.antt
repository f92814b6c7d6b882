-- Odd cuts, and weights of them that pack: the dual of minimum T-joins.
use Rattle.std.specs.Prelude.{◌≡◌, ℕ, ◌+◌, ◌*◌, ◌%◌, ◌<◌, ◌≤◌, ◌≤ℤ◌, pos, Bool, List, length, All, count_by, unsigned_abs}
use Rattle.sg_base.specs.Parity.{xor}
use Rattle.sg_base.specs.Sets.{holds, chosen_below}
use Rattle.sg_base.specs.Loads.{load_at}
use Rattle.sg_graph.specs.declared.cut.Cut.{Cut}
use Rattle.sg_graph.specs.Web.{Graph, edge_at, edge_count, edge_weight}

-- exactly one end of edge e is inside
abbrev pub crosses : Graph → (ℕ → Bool) → ℕ → Bool
crosses g inside e = xor (inside (edge_at g e).a) (inside (edge_at g e).b)

-- all edges, rising, with exactly one end in some set of nodes that has an odd number of terminals
pub record IsOddCut (g : Graph) (terminals edges : List ℕ) : Type 0 where
  pub inside : ℕ → Bool
  pub odd : count_by inside terminals % 2 ≡ 1
  pub is : edges ≡ chosen_below (crosses g inside) (edge_count g)

-- the weight of a cut, a natural number if it is at least 1
abbrev pub odd_cut_weight : Cut → ℕ
odd_cut_weight c = unsigned_abs c.y

-- the weights of the cuts that hold edge e
abbrev pub cut_load : List Cut → ℕ → ℕ
cut_load cuts e = load_at odd_cut_weight (λ c. holds c.edges) cuts e

-- weighted odd cuts that load no edge with more than twice its weight, and not too many of them
pub record CutsPack (g : Graph) (terminals : List ℕ) (cuts : List Cut) : Type 0 where
  pub positive : All (λ c. pos 1 ≤ℤ c.y) cuts
  pub odd_cuts : All (λ c. IsOddCut g terminals c.edges) cuts
  pub within : (e : ℕ) → e < edge_count g → cut_load cuts e ≤ 2 * edge_weight g e
  pub short : 2 * length cuts ≤ 3 * length terminals + 2 * g.nodes
