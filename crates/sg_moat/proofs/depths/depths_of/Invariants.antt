-- The depths by the leaves before the next.
use Rattle.sg_moat.specs.Depths.{AreDepths}
use Rattle.sg_moat.proofs.SetDepths.{depth_by}
use Rattle.sg_moat.proofs.depths.depths_of.Given as goal

abbrev pub invariant-loop-leaf : goal.invariant-loop-leaf
invariant-loop-leaf l = AreDepths l.web.nodes (depth_by l.family l.tables l.name l.web.nodes l.leaf) l.depths.items
