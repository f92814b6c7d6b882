use Rattle.std.proofs.Common.{◌<◌, ℕ}
use Rattle.sg_bonds.specs.Bounds.{Decides, bound_at}
use Rattle.sg_bonds.proofs.deciding.are_decided.Given as goal

abbrev pub invariant-loop-bound : goal.invariant-loop-bound
invariant-loop-bound l = (i : ℕ) → i < l.bound-index → Decides (bound_at l.bounds i)
