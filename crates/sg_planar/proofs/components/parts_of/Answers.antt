use Rattle.std.proofs.Common.{arith}
use Rattle.sg_planar.proofs.NamedParts.{parts_made, zip_more, zip_same}
use Rattle.sg_planar.proofs.components.parts_of.Goals as goal

pub loop-spin-preserved : goal.loop-spin-preserved
loop-spin-preserved c = grind (arith, zip_more, zip_same)

pub returns : goal.returns
returns c = grind (arith, parts_made)
