use Rattle.std.proofs.Common.{arith}
use Rattle.std.proofs.lemmas.Grind.{common_steps}
use Rattle.sg_nest.proofs.judge.Judge.none_steep.Goals as goal

pub list_heights-requires-clause-are : goal.list_heights-requires-clause-are
list_heights-requires-clause-are c = grind (arith, common_steps)

pub none_steep-requires-clause-are : goal.none_steep-requires-clause-are
none_steep-requires-clause-are c = grind (arith, common_steps)
