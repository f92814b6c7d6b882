use Rattle.sg_base.specs.Sets.{is_marked}
use Rattle.sg_planar.specs.Following.{SetTo}
use Rattle.sg_planar.proofs.assignment.follow.Given as goal

abbrev pub invariant-loop-spin : goal.invariant-loop-spin
invariant-loop-spin l = SetTo l.inst (is_marked l.unlike) l.order l.spin-index l.down.items
