-- `list_leaves`: the tables say of the leaves so far what they are to say.
use Rattle.std.proofs.Common.{◌≡◌, ℕ, ◌<◌, get_or, pos}
use Rattle.sg_match.proofs.leaves.list_leaves.Given as goal
use Rattle.sg_arena.specs.Family.{Holds, IsTop, total_of}

abbrev pub invariant-loop-leaf : goal.invariant-loop-leaf
invariant-loop-leaf l = record {
  top : (k : ℕ) → k < l.leaf → IsTop l.arena (get_or l.tops k 0);
  held : (k : ℕ) → k < l.leaf → Holds l.arena (get_or l.tops k 0) k;
  total : (k : ℕ) → k < l.leaf → get_or l.totals k (pos 0) ≡ pos (total_of l.arena k);
}
