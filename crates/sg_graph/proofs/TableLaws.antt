-- What a table of a graph says: distances of nodes that are reached, and that every node that a walk reaches is.
use Rattle.std.proofs.Common.{◌≡◌, ℕ, ◌<◌, pos, true, ◌++◌, arith}
use Rattle.sg_graph.specs.Web.{Graph}
use Rattle.sg_graph.specs.Walk.{IsConnectedWeb, IsDistance, IsReached}
use Rattle.sg_graph.specs.Table.{IsTableOf, Routes, distance_at, is_reached, length_to}
use Rattle.sg_graph.proofs.Walks.{walk-append, walk-back}

module _ (g : Graph) (t : Routes) (is : IsTableOf g t) where
  -- the distance that is noted is the distance
  pub distance_is : (x : ℕ) → x < g.nodes → is_reached t x ≡ true → IsDistance g t.source x (length_to t x)
  distance_is x l h = grind arith

  -- it is not negative
  pub distance_signed : (x : ℕ) → x < g.nodes → is_reached t x ≡ true → distance_at t x ≡ pos (length_to t x)
  distance_signed x l h = grind arith

  -- a node to which a walk leads is reached
  pub reached_if : (x : ℕ) → x < g.nodes → IsReached g t.source x → is_reached t x ≡ true
  reached_if x l way = grind arith

-- in a connected graph a walk leads from each node to each other
pub connected_reached : (g : Graph) → IsConnectedWeb g → (x y : ℕ) → x < g.nodes → y < g.nodes → IsReached g x y
connected_reached g c x y p q =
    let there = c x p in
    let back = walk-back g there.0 0 x there.1 in
    let on = c y q in
    (back.0 ++ on.0, walk-append g back.0 on.0 x 0 y back.1 on.1)

-- so a table of a connected graph reaches every node, at its distance
pub connected_distance : (g : Graph) (t : Routes) → IsTableOf g t → IsConnectedWeb g → t.source < g.nodes → (x : ℕ) → x < g.nodes
    → IsDistance g t.source x (length_to t x)
connected_distance g t is c low x l = distance_is g t is x l (reached_if g t is x l (connected_reached g c t.source x low l))
