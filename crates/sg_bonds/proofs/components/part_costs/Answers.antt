use Rattle.sg_bonds.proofs.Common.{arith, elements}
use Rattle.sg_bonds.proofs.components.part_costs.Goals as goal

pub all_costs-requires-clause-bounds : goal.all_costs-requires-clause-bounds
all_costs-requires-clause-bounds c = grind (arith, elements)
