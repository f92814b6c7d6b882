use Rattle.std.proofs.Common.{arith}
use Rattle.std.proofs.lemmas.Grind.{common_steps}
use Rattle.sg_match.proofs.Engine.grow_or_augment.Goals as goal

pub index-requires : goal.index-requires
index-requires c = grind (arith, common_steps)

pub grow-requires-clause-pair : goal.grow-requires-clause-pair
grow-requires-clause-pair c = grind (arith, common_steps)
