-- No distance is more than the weight of all edges: the way back has no edge twice.
use Rattle.std.proofs.Common.{◌≡◌, ℕ, ◌<◌, ◌≤◌, true, List, [], ◌∷◌, arith, All}
use Rattle.std.proofs.lemmas.List.Elements.{All-cons, All-nil}
use Rattle.sg_graph.specs.Web.{Graph, edge_count, total_weight}
use Rattle.sg_graph.specs.Table.{IsTableOf, IsWayBack, Routes, is_reached, length_to}
use Rattle.sg_graph.proofs.OnceLists.{once_light}
use Rattle.sg_graph.proofs.Tables.{reached_low}
use Rattle.sg_dist.proofs.Ways.{way_distance, way_once}

module _ (g : Graph) (t : Routes) where
  way_below : (es : List ℕ) (x y : ℕ) → IsWayBack g t x es y → All (λ e. e < edge_count g) es
  way_below [] x y w = All-nil (λ e. e < edge_count g)
  way_below (e ∷ es) x y w = All-cons (λ e. e < edge_count g) e es w.2.below (way_below es w.0 y w.3)

  -- a distance is at most the weight of all edges
  pub distance_light : IsTableOf g t → (x : ℕ) → is_reached t x ≡ true → length_to t x ≤ total_weight g
  distance_light is x h = grind (arith, reached_low, way_distance, once_light, way_below, way_once, is.back, is.nodes, is)
