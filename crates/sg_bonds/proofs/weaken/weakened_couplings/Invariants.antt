use Rattle.std.proofs.Common.{◌≡◌}
use Rattle.sg_bonds.specs.Weakened.{amount_at, weakened_couplings}
use Rattle.sg_bonds.proofs.weaken.weakened_couplings.Given as goal

abbrev pub invariant-loop-k : goal.invariant-loop-k
invariant-loop-k l = l.list ≡ weakened_couplings l.study.planar.now.instance l.scale l.study.least.now.spins (amount_at l.amounts) l.k
