use Rattle.std.proofs.Common.{◌-◌, length}
use Rattle.sg_dist.proofs.Ways.{Follows}
use Rattle.sg_dist.proofs.walk.way_back.Given as goal

abbrev pub invariant-loop-edge : goal.invariant-loop-edge
invariant-loop-edge l = Follows l.web l.table l.to l.back.items l.at

abbrev pub decreases-loop-edge : goal.decreases-loop-edge
decreases-loop-edge l = l.web.nodes - length l.back.items
