-- The cuts at the levels of one set, by the depths of the nodes.
use Rattle.std.specs.Prelude.{◌≡◌, ℕ, ◌+◌, ◌<◌, ◌≤◌, ◌≤ℤ◌, ◌&&◌, ◌++◌, pos, Bool, List, length, All, sum_by}
use Rattle.std.specs.Prelude.{nat_lt, cond, Contains, ◌⊎◌}
use Rattle.sg_base.specs.Sums.{sum_below}
use Rattle.sg_base.specs.Sets.{chosen_below}
use Rattle.sg_graph.specs.declared.cut.Cut.{Cut}
use Rattle.sg_graph.specs.Web.{Graph, edge_at, edge_count}
use Rattle.sg_graph.specs.OddCut.{crosses, cut_load, odd_cut_weight}
use Rattle.sg_base.specs.Naturals.{gap}

-- the node is at a depth below the level
abbrev pub is_below_level : (ℕ → ℕ) → ℕ → ℕ → Bool
is_below_level depth level x = nat_lt (depth x) level

-- a depth strictly between 0 and y
abbrev pub is_inside : ℕ → ℕ → Bool
is_inside y d = nat_lt 0 d && nat_lt d y

-- how many nodes are at such a depth
abbrev pub inside_count : Graph → (ℕ → ℕ) → ℕ → ℕ
inside_count g depth y = sum_below (λ x. cond (is_inside y (depth x)) 1 0) g.nodes

-- how much the depth changes over edge e
abbrev pub change_over : Graph → (ℕ → ℕ) → ℕ → ℕ
change_over g depth e = gap (depth (edge_at g e).a) (depth (edge_at g e).b)

-- the cut of the nodes below a level of the set
pub record IsSlice (g : Graph) (depth : ℕ → ℕ) (y : ℕ) (c : Cut) : Type 0 where
  pub positive : pos 1 ≤ℤ c.y
  pub level : ℕ
  pub above : 0 < level
  pub up_to : level ≤ y
  pub is : c.edges ≡ chosen_below (crosses g (is_below_level depth level)) (edge_count g)

-- the cuts of one set: together they weigh its dual, at each edge what the depth changes over it, and there is at
-- most one of them more than nodes strictly inside
pub record Slices (g : Graph) (depth : ℕ → ℕ) (y : ℕ) (cuts : List Cut) : Type 0 where
  pub are : All (IsSlice g depth y) cuts
  pub total : sum_by odd_cut_weight cuts ≡ y
  pub loads : (e : ℕ) → e < edge_count g → cut_load cuts e ≡ change_over g depth e
  pub few : length cuts ≤ inside_count g depth y + 1

-- no depth lies between the last level and the next, which is one of the depths or y
pub record IsNextLevel (depths : List ℕ) (last y next : ℕ) : Type 0 where
  pub above : last < next
  pub up_to : next ≤ y
  pub is : (next ≡ y) ⊎ Contains depths next
  pub between : All (λ d. (d ≤ last) ⊎ (next ≤ d)) depths

-- the cuts of one set are added
pub record Sliced (g : Graph) (depth : ℕ → ℕ) (y : ℕ) (old new : List Cut) : Type 0 where
  pub more : List Cut
  pub is : new ≡ old ++ more
  pub slices : Slices g depth y more
