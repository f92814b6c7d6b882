-- What `open`, `shrink`, `expand` and `raise` make of a family.
use Rattle.std.specs.Prelude.{◌≡◌, ◌≢◌, ℕ, zero, suc, ◌+◌, ◌-◌, ◌<◌, ◌≤◌, ◌^◌, List, length, Option, Some, filter}
use Rattle.std.specs.Prelude.{slice_set, slice_index, map, if◌then◌else◌, ◌==◌}
use Rattle.std.specs.List.{list_any, range_with_len}
use Rattle.std.specs.Option.{option_map}
use Rattle.sg_arena.specs.declared.Link.{Link}
use Rattle.sg_arena.specs.Family.{Node, Family, leaf_count, leaf_node, node_at, IsAlive, dual_of, total_of, Holds}
use Rattle.sg_arena.specs.Family.{IsTop, link_at, IsCycle, any_holds, single}

-- each leaf has a node of its own with dual 0, and there is no other node
pub record OnlyLeaves (f : Family) : Type 0 where
  pub leaves : (leaf : ℕ) → leaf < leaf_count f → node_at f (leaf_node f leaf) ≡ Some (single leaf 0)
  pub named : (name : ℕ) → IsAlive f name → (leaf : ℕ) × (leaf < leaf_count f) × (leaf_node f leaf ≡ name)

-- a new blossom may be made of the cycle: its nodes are tops
pub record CanShrink (f : Family) (cycle : List Link) : Type 0 where
  pub closed : IsCycle f cycle
  pub tops : (i : ℕ) → i < length cycle → IsTop f (link_at cycle i).node

-- the blossom of a cycle: the leaves of its nodes in rising order, dual 0, and this cycle
abbrev pub blossom_of : Family → List Link → Node
blossom_of f cycle = record {
  leaves = filter (any_holds f cycle) (range_with_len 0 (leaf_count f));
  dual = 0;
  cycle = cycle;
}

-- the family one step later, with this under the name, and all else as it was
abbrev pub with_slot : Family → ℕ → Option Node → Family
with_slot f name slot = record f { nodes = slice_set f.nodes name slot; steps = f.steps + 1 }

-- the dual of a node after these outer nodes were raised and these inner ones lowered
abbrev pub raised_dual : List ℕ → List ℕ → ℕ → ℕ → ℕ → ℕ
raised_dual outer inner delta name dual =
    if list_any (λ n. n == name) outer then dual + delta
    else (if list_any (λ n. n == name) inner then dual - delta else dual)

-- the node with its dual changed
abbrev pub with_dual : (ℕ → ℕ) → Node → Node
with_dual change node = record node { dual = change node.dual }

-- a raise by 0 is no step, and any other is one
abbrev pub raise_steps : ℕ → ℕ
raise_steps zero = 0
raise_steps (suc delta) = 1

-- the family in which the duals of the outer nodes have grown by delta, those of the inner nodes
-- have fallen by it, the step is counted, and all else is as it was
abbrev pub raised : Family → List ℕ → List ℕ → ℕ → Family
raised f outer inner delta = record f {
  nodes = map (λ name. option_map (with_dual (raised_dual outer inner delta name)) (node_at f name))
      (range_with_len 0 (length f.nodes));
  steps = f.steps + raise_steps delta;
}

-- two lists of tops, all of them different
pub record AreTops (f : Family) (outer inner : List ℕ) : Type 0 where
  pub outer_tops : (i : ℕ) → i < length outer → IsTop f (slice_index outer i)
  pub inner_tops : (i : ℕ) → i < length inner → IsTop f (slice_index inner i)
  pub outer_differ : (i j : ℕ) → i < length outer → j < length outer →
      slice_index outer i ≡ slice_index outer j → i ≡ j
  pub inner_differ : (i j : ℕ) → i < length inner → j < length inner →
      slice_index inner i ≡ slice_index inner j → i ≡ j
  pub apart : (i j : ℕ) → i < length outer → j < length inner → slice_index outer i ≢ slice_index inner j

-- such tops; the inner ones have duals of at least delta, and the totals room to grow by it
pub record CanRaise (f : Family) (outer inner : List ℕ) (delta : ℕ) : Type 0 where
  pub tops : AreTops f outer inner
  pub enough : (i : ℕ) → i < length inner → delta ≤ dual_of f (slice_index inner i)
  pub fits : (i leaf : ℕ) → i < length outer → Holds f (slice_index outer i) leaf → total_of f leaf + delta ≤ 2 ^ 61
