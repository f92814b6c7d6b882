use Rattle.std.proofs.Common.{◌≡◌}
use Rattle.sg_arena.specs.Family.{leaf_count}
use Rattle.sg_web_rows.proofs.blossoms.expect_run.Given as goal

-- no leaf comes or goes
abbrev pub invariant-loop-row : goal.invariant-loop-row
invariant-loop-row g l = leaf_count l.arena ≡ l.k
