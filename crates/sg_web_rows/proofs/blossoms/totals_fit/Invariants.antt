use Rattle.std.proofs.Common.{ℕ, ◌<◌, ◌≤◌}
use Rattle.sg_arena.specs.Family.{total_of}
use Rattle.sg_web_rows.proofs.blossoms.totals_fit.Given as goal

-- the leaves so far have small totals
abbrev pub invariant-loop-leaf : goal.invariant-loop-leaf
invariant-loop-leaf l = (leaf : ℕ) → leaf < l.leaf → total_of l.arena leaf ≤ 1000000
