-- The cuts of all sets of a family.
use Rattle.std.specs.Prelude.{◌≡◌, ℕ, ◌+◌, ◌-◌, ◌*◌, ◌<◌, ◌≤◌, List, length, fold, min, All, sum_by}
use Rattle.sg_base.specs.Sums.{sum_below}
use Rattle.sg_arena.specs.Family.{Family, dual_of, leaves_of}
use Rattle.sg_graph.specs.declared.cut.Cut.{Cut}
use Rattle.sg_graph.specs.Web.{Graph, edge_count}
use Rattle.sg_graph.specs.OddCut.{cut_load, odd_cut_weight}
use Rattle.sg_graph.specs.Table.{Routes}
use Rattle.sg_moat.specs.Input.{distance_from}
use Rattle.sg_arena.specs.Sets.{alive_at, inner_of}
use Rattle.sg_moat.specs.Slices.{IsSlice, change_over, inside_count}

-- twice the distance to a terminal of the set, less what the duals of the smaller sets reach
abbrev pub reach_from : Family → List Routes → ℕ → ℕ → ℕ → ℕ
reach_from f tables s x leaf = 2 * distance_from tables leaf x - inner_of f s leaf

-- the depth of a node at a set: the least of its dual and of what is reached from its terminals
abbrev pub set_depth : Family → List Routes → ℕ → ℕ → ℕ
set_depth f tables s x = fold (λ d leaf. min d (reach_from f tables s x leaf)) (dual_of f s) (leaves_of f s)

-- a cut at a level of some set of positive dual
pub record IsMoatCut (f : Family) (g : Graph) (tables : List Routes) (c : Cut) : Type 0 where
  pub name : ℕ
  pub positive : 0 < dual_of f name
  pub slice : IsSlice g (set_depth f tables name) (dual_of f name) c

-- the cuts of one set are added to those before
pub record Adds (f : Family) (g : Graph) (tables : List Routes) (name : ℕ) (old new : List Cut) : Type 0 where
  pub are : All (IsMoatCut f g tables) old → All (IsMoatCut f g tables) new
  pub total : sum_by odd_cut_weight new ≡ sum_by odd_cut_weight old + dual_of f name
  pub loads : (e : ℕ) → e < edge_count g →
      cut_load new e ≡ cut_load old e + change_over g (set_depth f tables name) e
  pub few : length new ≤ length old + (alive_at f name + inside_count g (set_depth f tables name) (dual_of f name))

-- the cuts of the sets with names below a number
pub record Gathers (f : Family) (g : Graph) (tables : List Routes) (upto : ℕ) (cuts : List Cut) : Type 0 where
  pub are : All (IsMoatCut f g tables) cuts
  pub total : sum_by odd_cut_weight cuts ≡ sum_below (dual_of f) upto
  pub loads : (e : ℕ) → e < edge_count g →
      cut_load cuts e ≡ sum_below (λ s. change_over g (set_depth f tables s) e) upto
  pub few : length cuts ≤ sum_below (λ s. alive_at f s + inside_count g (set_depth f tables s) (dual_of f s)) upto
