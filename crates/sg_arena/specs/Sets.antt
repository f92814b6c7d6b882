-- The sets of a family that lie within another, what their duals sum to at a leaf, and whether a name has one.
use Rattle.std.specs.Prelude.{ℕ, ◌&&◌, ◌==◌, Bool, not, cond, is_some, length}
use Rattle.std.specs.List.{list_all}
use Rattle.sg_base.specs.Sums.{sum_below}
use Rattle.sg_arena.specs.Family.{Family, dual_of, holds, leaves_of, node_at}

-- each leaf of x is one of s
abbrev pub within : Family → ℕ → ℕ → Bool
within f s x = list_all (holds f s) (leaves_of f x)

-- and x is not s itself
abbrev pub strictly_within : Family → ℕ → ℕ → Bool
strictly_within f s x = within f s x && not (x == s)

-- what set x adds to the duals inside s at the leaf
abbrev pub share_below : Family → ℕ → ℕ → ℕ → ℕ
share_below f s leaf x = cond (strictly_within f s x && holds f x leaf) (dual_of f x) 0

-- the sum of the duals of the smaller sets within s that hold the leaf
abbrev pub inner_of : Family → ℕ → ℕ → ℕ
inner_of f s leaf = sum_below (share_below f s leaf) (length f.nodes)

-- 1 if a node with this name is alive, and 0 else
abbrev pub alive_at : Family → ℕ → ℕ
alive_at f name = cond (is_some (node_at f name)) 1 0
