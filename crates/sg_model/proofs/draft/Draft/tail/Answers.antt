use Rattle.std.proofs.Common.{arith}
use Rattle.std.proofs.lemmas.Option.{get_or_from_slice_get}
use Rattle.sg_model.proofs.Darts.{tail_even, tail_odd}
use Rattle.sg_model.proofs.draft.Draft.tail.Goals as goal

pub returns-then-dart-eq0 : goal.returns-then-dart-eq0
returns-then-dart-eq0 c = grind (arith, get_or_from_slice_get, tail_even)

pub returns-else-dart-eq0 : goal.returns-else-dart-eq0
returns-else-dart-eq0 c = grind (arith, get_or_from_slice_get, tail_odd)
