use Rattle.std.proofs.Common.{arith}
use Rattle.sg_base.specs.Sets.{is_marked}
use Rattle.sg_graph.proofs.TurnedEnds.{ends_more}
use Rattle.sg_graph.proofs.ends.turn_ends.Goals as goal

pub loop-k-preserved : goal.loop-k-preserved
loop-k-preserved c = λ x l.
    ends_more c.args.web.now c.args.list.now c.loop-k.k-index c.edge-edge.result (is_marked c.args.marks.now x) (is_marked c.loop-k.marks x)
    (is_marked c.flip.new.marks x) x c.loop-k-test.true c.edge-edge.ensures.value (c.loop-k.invariant x l)
    (c.flip.ensures x (omega arith))
