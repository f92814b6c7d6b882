-- The way up has not passed the set with the name.
use Rattle.std.proofs.Common.{◌-◌, length}
use Rattle.sg_arena.specs.Family.{leaf_count, leaves_of}
use Rattle.sg_moat.proofs.Climb.{Climbing}
use Rattle.sg_moat.proofs.duals.inner_duals.Given as goal

abbrev pub invariant-loop-at : goal.invariant-loop-at
invariant-loop-at l = Climbing l.family l.name l.leaf l.at l.inner

-- each parent holds more leaves
abbrev pub decreases-loop-at : goal.decreases-loop-at
decreases-loop-at l = leaf_count l.family - length (leaves_of l.family l.at)
