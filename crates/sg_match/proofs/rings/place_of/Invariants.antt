-- `place_of`: no link so far has the node.
use Rattle.std.proofs.Common.{◌≢◌, ℕ, ◌<◌}
use Rattle.sg_arena.specs.Family.{link_at}
use Rattle.sg_match.proofs.rings.place_of.Given as goal

abbrev pub invariant-loop-i : goal.invariant-loop-i
invariant-loop-i l = (k : ℕ) → k < l.i → (link_at l.ring k).node ≢ l.node
