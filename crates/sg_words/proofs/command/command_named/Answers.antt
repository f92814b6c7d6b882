use Rattle.std.proofs.Common.{arith}
use Rattle.std.proofs.lemmas.Grind.{common_steps}
use Rattle.sg_words.proofs.command.command_named.Goals as goal

pub returns-then-eq-4-clause-value : goal.returns-then-eq-4-clause-value
returns-then-eq-4-clause-value c = grind (arith, common_steps)

pub returns-then-eq-5-clause-value : goal.returns-then-eq-5-clause-value
returns-then-eq-5-clause-value c = grind (arith, common_steps)

pub returns-then-eq-6-clause-value : goal.returns-then-eq-6-clause-value
returns-then-eq-6-clause-value c = grind (arith, common_steps)

pub returns-then-eq-7-clause-value : goal.returns-then-eq-7-clause-value
returns-then-eq-7-clause-value c = grind (arith, common_steps)

pub returns-then-eq-8-clause-value : goal.returns-then-eq-8-clause-value
returns-then-eq-8-clause-value c = grind (arith, common_steps)

pub returns-then-eq-9-clause-value : goal.returns-then-eq-9-clause-value
returns-then-eq-9-clause-value c = grind (arith, common_steps)

pub returns-then-eq-10-clause-value : goal.returns-then-eq-10-clause-value
returns-then-eq-10-clause-value c = grind (arith, common_steps)

pub returns-then-eq-11-clause-value : goal.returns-then-eq-11-clause-value
returns-then-eq-11-clause-value c = grind (arith, common_steps)

pub returns-else-eq-11-clause-value : goal.returns-else-eq-11-clause-value
returns-else-eq-11-clause-value c = grind (arith, common_steps)
