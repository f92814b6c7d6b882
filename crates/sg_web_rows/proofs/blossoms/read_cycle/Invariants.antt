use Rattle.std.proofs.Common.{ℕ}
use Rattle.sg_arena.specs.Family.{IsChildAt}
use Rattle.sg_web_rows.proofs.blossoms.read_cycle.Given as goal

-- the walk is at a child of the blossom
abbrev pub invariant-loop-i : goal.invariant-loop-i
invariant-loop-i g l = (place : ℕ) × IsChildAt l.arena l.blossom place l.child
