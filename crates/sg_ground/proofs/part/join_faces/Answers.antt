use Rattle.std.proofs.Common.{arith}
use Rattle.sg_ground.proofs.Solutions.{any_tight}
use Rattle.sg_ground.proofs.part.join_faces.Goals as goal

pub returns-clause-join : goal.returns-clause-join
returns-clause-join c = grind (arith, any_tight)
