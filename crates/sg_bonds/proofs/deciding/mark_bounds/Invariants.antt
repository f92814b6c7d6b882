use Rattle.std.proofs.Common.{◌<◌, ℕ}
use Rattle.sg_bonds.specs.Bounds.{Decides, Narrows, bound_at}
use Rattle.sg_bonds.proofs.deciding.mark_bounds.Given as goal

abbrev pub invariant-loop-k : goal.invariant-loop-k
invariant-loop-k l = record {
  narrows : Narrows l.inst l.initial.bounds l.bounds;
  decided : (i : ℕ) → i < l.k → Decides (bound_at l.bounds i);
}
