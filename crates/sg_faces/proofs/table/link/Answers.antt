use Rattle.std.proofs.Common.{arith}
use Rattle.sg_faces.proofs.PhiTables.{linked_more, unlinked_kept, linked_all}
use Rattle.sg_faces.proofs.table.link.Goals as goal

pub loop-place-preserved : goal.loop-place-preserved
loop-place-preserved c = grind (arith, linked_more, unlinked_kept)

pub returns-clause-follows : goal.returns-clause-follows
returns-clause-follows c = linked_all c.args.darts.now c.loop-place.table (λ k l. c.loop-place.invariant.follows k (omega arith))
