use Rattle.std.proofs.Common.{◌≡◌, length}
use Rattle.sg_bonds.specs.Bounds.{Narrows}
use Rattle.sg_bonds.proofs.enclosing.weaken_all.Given as goal

abbrev pub invariant-loop : goal.invariant-loop
invariant-loop l = record {
  amounts : length l.amounts ≡ length l.initial.amounts;
  narrows : Narrows l.study.planar.now.instance l.initial.bounds l.bounds;
}
