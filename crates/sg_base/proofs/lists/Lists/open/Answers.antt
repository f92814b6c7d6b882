use Rattle.std.proofs.Common.{arith}
use Rattle.sg_base.proofs.PieceSteps.{pieces_opened, starts_opened}
use Rattle.sg_base.proofs.lists.Lists.open.Goals as goal

pub invariant_of-self-2 : goal.invariant_of-self-2
invariant_of-self-2 g c =
    grind (arith, starts_opened, c.in_ok-push.ensures.items, c.self.invariant)

pub returns-clause-ok : goal.returns-clause-ok
returns-clause-ok g c =
    grind (arith, pieces_opened, c.in_ok-push.ensures.items, c.self.view_is)
