use Rattle.std.proofs.Common.{arith}
use Rattle.std.proofs.lemmas.Grind.{common_steps}
use Rattle.sg_reader.proofs.result.read_loop.Goals as goal

pub number-requires : goal.number-requires
number-requires c = grind (arith, common_steps)

pub indices-requires : goal.indices-requires
indices-requires c = grind (arith, common_steps)

pub returns-clause-count : goal.returns-clause-count
returns-clause-count c = grind (arith, common_steps)
