use Rattle.std.proofs.Common.{arith}
use Rattle.std.proofs.lemmas.Grind.{elements}
use Rattle.sg_join_check.proofs.marks.all_marked.Goals as goal

pub returns : goal.returns
returns c = grind (arith, elements)
