use Rattle.std.proofs.Common.{length, refl}
use Rattle.sg_arena.proofs.CellLemmas.{Rewrites-more}
use Rattle.sg_arena.proofs.cells.raise_duals.Goals as goal

pub loop-node-preserved : goal.loop-node-preserved
loop-node-preserved c =
    Rewrites-more c.loop-node.invariant (length c.args.nodes.now) c.loop-node-test.true c.requires.differ c.index-cell.result.now _ c.index-cell.ensures refl
