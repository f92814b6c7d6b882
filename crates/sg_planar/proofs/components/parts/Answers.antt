use Rattle.std.proofs.Common.{arith}
use Rattle.std.proofs.lemmas.Grind.{elements}
use Rattle.sg_planar.proofs.components.parts.Goals as goal

pub deal_out-requires : goal.deal_out-requires
deal_out-requires c = grind (arith, elements)

pub parts_of-requires : goal.parts_of-requires
parts_of-requires c = grind (arith, elements)
