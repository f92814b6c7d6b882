use Rattle.std.proofs.Common.{ℕ, ◌*◌, ◌<◌, ◌≤◌, get_or, unsigned_abs}
use Rattle.sg_model.specs.Ising.{bond_at}
use Rattle.sg_check.proofs.loads.first_above.Given as goal

abbrev pub invariant-loop-k : goal.invariant-loop-k
invariant-loop-k l = (j : ℕ) → j < l.k → get_or l.loads j 0 ≤ 2 * unsigned_abs (bond_at l.inst j).j
