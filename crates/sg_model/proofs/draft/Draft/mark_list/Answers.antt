use Rattle.std.proofs.Common.{arith}
use Rattle.std.proofs.lemmas.Grind.{common_steps, elements}
use Rattle.sg_model.proofs.draft.Draft.mark_list.Goals as goal

pub loop-dart-preserved : goal.loop-dart-preserved
loop-dart-preserved c = grind (arith, common_steps)

pub loop-dart-init : goal.loop-dart-init
loop-dart-init c = grind (arith, elements)

pub returns-clause-none : goal.returns-clause-none
returns-clause-none c = grind (arith, elements)
