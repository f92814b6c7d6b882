use Rattle.std.proofs.Common.{arith}
use Rattle.std.proofs.lemmas.Grind.{elements}
use Rattle.sg_join_check.proofs.shapes.all_shaped.Goals as goal

pub returns : goal.returns
returns c = grind (arith, elements)

pub loop-cut-preserved : goal.loop-cut-preserved
loop-cut-preserved c = grind (arith, elements)
