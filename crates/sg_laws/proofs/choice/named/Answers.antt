use Rattle.std.proofs.Common.{arith}
use Rattle.std.proofs.lemmas.Grind.{common_steps}
use Rattle.sg_laws.proofs.choice.named.Goals as goal

pub returns-then-is_named : goal.returns-then-is_named
returns-then-is_named c = grind (arith, common_steps)
