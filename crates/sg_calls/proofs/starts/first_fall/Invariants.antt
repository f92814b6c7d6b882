use Rattle.std.proofs.Common.{ℕ, ◌+◌, ◌<◌, ◌≤◌}
use Rattle.sg_calls.specs.Crossing.{entry}
use Rattle.sg_calls.proofs.starts.first_fall.Given as goal

-- no start so far is less than the one in front of it
abbrev pub invariant-loop-k : goal.invariant-loop-k
invariant-loop-k l = (i : ℕ) → i + 1 < l.k → entry l.starts i ≤ entry l.starts (i + 1)
