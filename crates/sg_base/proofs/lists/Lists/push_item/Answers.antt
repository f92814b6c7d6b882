use Rattle.std.proofs.Common.{arith}
use Rattle.sg_base.proofs.PieceSteps.{length-pieces, pieces_filled, starts_filled}
use Rattle.sg_base.proofs.lists.Lists.push_item.Goals as goal

pub invariant_of-self-2 : goal.invariant_of-self-2
invariant_of-self-2 g c =
    grind (arith, starts_filled, c.in_ok-push.ensures.items, c.self.invariant)

pub returns-clause-ok : goal.returns-clause-ok
returns-clause-ok g c =
    grind (arith, length-pieces, pieces_filled, c.requires, c.self.view_is, c.in_ok-push.ensures.items, c.self.invariant)
