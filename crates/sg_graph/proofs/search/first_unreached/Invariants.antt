use Rattle.std.proofs.Common.{◌≡◌, ◌<◌, ℕ, true}
use Rattle.sg_base.specs.Sets.{is_marked}
use Rattle.sg_graph.proofs.search.first_unreached.Given as goal

abbrev pub invariant-loop-node : goal.invariant-loop-node
invariant-loop-node l = (y : ℕ) → y < l.node → is_marked l.marks.items y ≡ true
