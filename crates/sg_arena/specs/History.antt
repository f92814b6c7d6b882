-- What each call makes of a family.
use Rattle.std.specs.Prelude.{ℕ, ◌+◌, ◌++◌, ◌∷◌, [], List, length, None, Some, slice_set, map}
use Rattle.std.specs.List.{range_with_len}
use Rattle.sg_arena.specs.Family.{Family, single}
use Rattle.sg_arena.specs.Changes.{raised}

-- no leaves, and room for so many nodes
abbrev pub bare : ℕ → Family
bare room = record { leaf_nodes = []; nodes = map (λ _. None) (range_with_len 0 room); steps = 0 }

-- one leaf more, under this name
abbrev pub with_leaf : Family → ℕ → Family
with_leaf f name = record {
  leaf_nodes = f.leaf_nodes ++ name ∷ [];
  nodes = slice_set f.nodes name (Some (single (length f.leaf_nodes) 0));
  steps = f.steps;
}

-- the family with the duals raised, one step later
abbrev pub after_raise : Family → List ℕ → List ℕ → ℕ → Family
after_raise f outer inner delta = record (raised f outer inner delta) { steps = f.steps + 1 }

-- how many calls made the family
abbrev pub events : Family → ℕ
events f = length f.leaf_nodes + f.steps
