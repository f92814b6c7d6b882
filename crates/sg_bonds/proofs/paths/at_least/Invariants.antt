use Rattle.sg_bonds.proofs.Common.{◌≡◌, ◌<◌, ℕ, length, has}
use Rattle.sg_bonds.specs.Bounds.{costs_at_least}
use Rattle.sg_bonds.proofs.paths.at_least.Given as goal

abbrev pub invariant-loop-bound : goal.invariant-loop-bound
invariant-loop-bound l = record {
  count : length l.set.items ≡ l.bound-index;
  each : (k : ℕ) → k < l.bound-index → has l.set.items k ≡ costs_at_least l.bounds l.least k;
}
