use Rattle.std.proofs.Common.{◌≡◌, ℕ, ◌<◌, get_or}
use Rattle.sg_bonds.specs.Bounds.{AreBounds, IsKnown, Narrows, bound_at}
use Rattle.sg_bonds.proofs.narrowing.settle_all.Given as goal

abbrev pub invariant-loop-bond : goal.invariant-loop-bond
invariant-loop-bond l = record {
  states : l.states ≡ l.study.planar.now;
  narrows : Narrows l.study.planar.now.instance l.initial.bounds l.bounds;
  known : AreBounds l.study.planar.now.instance l.initial.bounds → (i : ℕ) → i < l.bond-index →
      IsKnown l.study.planar.now.instance (get_or l.asked i 0) (bound_at l.bounds (get_or l.asked i 0));
}
