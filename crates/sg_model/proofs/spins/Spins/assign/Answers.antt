use Rattle.std.proofs.Common.{arith}
use Rattle.std.proofs.lemmas.Grind.{common_steps}
use Rattle.std.proofs.lemmas.List.{with_items_is}
use Rattle.sg_model.proofs.Codes.{coded-up_or_down}
use Rattle.sg_model.proofs.spins.Spins.assign.Goals as goal

pub invariant_of-self : goal.invariant_of-self
invariant_of-self c = grind (arith, with_items_is, coded-up_or_down)

pub returns-clause-value : goal.returns-clause-value
returns-clause-value c = grind (arith, common_steps)

pub returns-clause-count : goal.returns-clause-count
returns-clause-count c = grind (arith, common_steps)
