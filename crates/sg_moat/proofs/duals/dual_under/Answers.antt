use Rattle.std.proofs.Common.{arith}
use Rattle.sg_moat.proofs.SetDepths.{no_dual}
use Rattle.sg_moat.proofs.duals.dual_under.Goals as goal

pub returns : goal.returns
returns c = grind (arith, no_dual, c.room-room.ensures.family, c.args.name, c.loop-leaf.invariant, c.requires, c.loop-leaf-test.false)
