use Rattle.std.proofs.Common.{◌≡◌, length}
use Rattle.sg_bonds.proofs.telling.amounts_of.Given as goal

abbrev pub invariant-loop-k : goal.invariant-loop-k
invariant-loop-k l = length l.amounts.items ≡ l.k
