-- How many steps a state has left at most.
use Rattle.std.specs.List.{range_with_len}
use Rattle.std.specs.Prelude.{ℕ, ◌+◌, ◌*◌, List, length, Option, None, [], Some, ◌-◌, ◌∷◌, Bool, true, false, not}
use Rattle.std.specs.Prelude.{count_by}
use Rattle.sg_arena.specs.Family.{Family, leaf_count, Node}
use Rattle.sg_match.specs.State.{State}
use Rattle.sg_match.specs.Tree.{outers, any_top}
use Rattle.sg_match.specs.declared.TreeEdge.{TreeEdge}

-- whether a slot of the family holds a blossom
abbrev pub has_children : Option Node → Bool
has_children None = false
has_children (Some n) = has_some n.cycle
  where
    has_some : {A : Type 0} → List A → Bool
    has_some [] = false
    has_some (x ∷ xs) = true

-- how many blossoms the family has
abbrev pub blossoms_of : Family → ℕ
blossoms_of f = count_by has_children f.nodes

-- how many leaves no outer top holds
abbrev pub rest_of : Family → ℕ → List TreeEdge → ℕ
rest_of f root edges = count_by (λ leaf. not (any_top f (outers root edges) leaf)) (range_with_len 0 (leaf_count f))

-- 2 k - 1 for each unpaired top, for k leaves; a tree counts 4 for each leaf not outer in place of two
abbrev pub tree_left : Family → List ℕ → Option ℕ → List TreeEdge → ℕ
tree_left f exposed None edges = (2 * leaf_count f - 1) * length exposed
tree_left f exposed (Some root) edges = (2 * leaf_count f - 1) * (length exposed - 1) + 4 * rest_of f root edges + 1

-- the steps of the tree and 2 for each blossom
abbrev pub steps_left : State → ℕ
steps_left s = tree_left s.family s.exposed s.root s.edges + 2 * blossoms_of s.family
