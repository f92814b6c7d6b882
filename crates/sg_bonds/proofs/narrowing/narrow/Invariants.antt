use Rattle.std.proofs.Common.{◌≡◌}
use Rattle.sg_bonds.specs.Bounds.{Narrows}
use Rattle.sg_bonds.proofs.narrowing.narrow.Given as goal

abbrev pub invariant-loop : goal.invariant-loop
invariant-loop l = record {
  states : l.states ≡ l.study.planar.now;
  narrows : Narrows l.study.planar.now.instance l.initial.bounds l.bounds;
}
