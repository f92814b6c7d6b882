use Rattle.std.proofs.Common.{arith}
use Rattle.sg_lattice.proofs.LatticeSizes.{few_rows}
use Rattle.sg_lattice.proofs.shape.Shape.new.Goals as goal

pub invariant_of-result : goal.invariant_of-result
invariant_of-result c = grind (arith, few_rows)
