use Rattle.std.proofs.Common.{arith}
use Rattle.std.proofs.lemmas.Grind.{common_steps}
use Rattle.sg_planar.proofs.naming.names.Goals as goal

pub name_all-requires-clause-start : goal.name_all-requires-clause-start
name_all-requires-clause-start c = grind (arith, common_steps)

pub returns : goal.returns
returns c = grind (arith, common_steps)
