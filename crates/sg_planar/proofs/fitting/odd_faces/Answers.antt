use Rattle.std.proofs.Common.{arith}
use Rattle.std.proofs.lemmas.Grind.{elements}
use Rattle.sg_planar.proofs.fitting.odd_faces.Goals as goal

pub loop-dart-preserved : goal.loop-dart-preserved
loop-dart-preserved c = grind (arith, elements)
