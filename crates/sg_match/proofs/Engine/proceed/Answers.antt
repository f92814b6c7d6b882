use Rattle.std.proofs.Common.{arith}
use Rattle.std.proofs.lemmas.Grind.{common_steps}
use Rattle.sg_match.proofs.Engine.proceed.Goals as goal

pub grow_or_augment-requires-clause-tight_edge : goal.grow_or_augment-requires-clause-tight_edge
grow_or_augment-requires-clause-tight_edge g c = grind (arith, common_steps)

pub shrink-requires-clause-tight_edge : goal.shrink-requires-clause-tight_edge
shrink-requires-clause-tight_edge g c = grind (arith, common_steps)
