-- `leaf_names`: the names of the leaves so far.
use Rattle.std.proofs.Common.{◌≡◌, ◌≤◌, take, vec_capacity}
use Rattle.sg_match.proofs.runs.leaf_names.Given as goal

abbrev pub invariant-loop-leaf : goal.invariant-loop-leaf
invariant-loop-leaf l = (l.names.items ≡ take l.leaf l.arena.leaf_nodes) × (l.room ≤ vec_capacity l.names)
