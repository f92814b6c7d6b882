-- The walk is at a node.
use Rattle.sg_arena.specs.Family.{IsAlive}
use Rattle.sg_web_rows.proofs.matching.first_duals.Given as goal

abbrev pub invariant-loop-level : goal.invariant-loop-level
invariant-loop-level g l = IsAlive l.arena l.node
