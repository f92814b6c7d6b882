use Rattle.std.proofs.Common.{◌≡◌, length}
use Rattle.sg_bonds.proofs.flipping.kept_bonds.Given as goal

abbrev pub invariant-loop-bond : goal.invariant-loop-bond
invariant-loop-bond l = length l.kept.items ≡ l.bond-index
