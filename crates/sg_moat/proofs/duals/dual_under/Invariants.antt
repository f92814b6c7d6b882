-- No leaf so far is one of the set's.
use Rattle.std.proofs.Common.{◌≡◌, ◌<◌, ℕ, false}
use Rattle.sg_arena.specs.Family.{holds}
use Rattle.sg_moat.proofs.duals.dual_under.Given as goal

abbrev pub invariant-loop-leaf : goal.invariant-loop-leaf
invariant-loop-leaf l = (k : ℕ) → k < l.leaf → holds l.family l.name k ≡ false
