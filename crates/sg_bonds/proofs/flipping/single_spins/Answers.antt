use Rattle.sg_bonds.proofs.Common.{arith, elements}
use Rattle.sg_bonds.proofs.flipping.single_spins.Goals as goal

pub with_gains-requires-clause-names : goal.with_gains-requires-clause-names
with_gains-requires-clause-names c = grind (arith, elements)
