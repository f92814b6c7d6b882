use Rattle.std.proofs.Common.{arith}
use Rattle.sg_model.proofs.PlainSearch.{ground_state}
use Rattle.sg_model.proofs.plain.least_plain.Goals as goal

pub returns-clause-least : goal.returns-clause-least
returns-clause-least c = grind (arith, ground_state)
