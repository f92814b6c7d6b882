use Rattle.sg_bonds.proofs.Common.{◌≡◌, ◌↔◌, ◌<◌, ℕ, true, length, has}
use Rattle.sg_bonds.specs.Cost.{IsRigid}
use Rattle.sg_bonds.proofs.telling.gather.Given as goal

abbrev pub invariant-loop-bond : goal.invariant-loop-bond
invariant-loop-bond l = record {
  count : length l.set.items ≡ l.bond;
  each : (k : ℕ) → k < l.bond → (has l.set.items k ≡ true) ↔ IsRigid l.study.planar.now.instance k;
}
