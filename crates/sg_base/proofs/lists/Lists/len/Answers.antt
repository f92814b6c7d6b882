use Rattle.std.proofs.Common.{arith}
use Rattle.sg_base.proofs.PieceSteps.{length-pieces}
use Rattle.sg_base.proofs.lists.Lists.len.Goals as goal

pub returns : goal.returns
returns g c =
    grind (arith, length-pieces, c.self.view_is)
