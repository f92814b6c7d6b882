-- `find_cycle`: the path so far is a cycle over the tree edges from i on.
use Rattle.std.proofs.Common.{ℕ, length, ◌≡◌, ◌≤◌, ◌+◌, ◌*◌, vec_capacity}
use Rattle.sg_match.proofs.shrink_cycle.find_cycle.Given as goal
use Rattle.sg_arena.specs.Slack.{duals_between}
use Rattle.sg_match.specs.Path.{AreTight}
use Rattle.sg_match.specs.TreeCycle.{HasTight, IsTreeCycle}

abbrev pub invariant-loop-head : goal.invariant-loop-head
invariant-loop-head l = record {
  within : l.i ≤ length l.edges;
  count : length l.cycle.items + 2 * l.i ≤ 2 * length l.edges + 1;
  room : vec_capacity l.cycle ≡ vec_capacity l.fn.cycle;
  find_cycle : IsTreeCycle l.arena l.root l.edges l.cycle.items l.i l.head l.tail;
  tight : (cost : ℕ → ℕ → ℕ) → HasTight l.arena cost l.edges → cost l.u l.v ≡ cost l.v l.u → duals_between l.arena l.u l.v ≡ cost l.u l.v →
      AreTight l.arena cost l.cycle.items;
}

abbrev pub decreases-loop-head : goal.decreases-loop-head
decreases-loop-head l = l.i
