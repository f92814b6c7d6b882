use Rattle.sg_graph.proofs.WalkEnds.{walk_below}
use Rattle.sg_tjoin.proofs.walks.turn_walk.Goals as goal

pub flip-requires : goal.flip-requires
flip-requires c =
    rw (c.as_slice.ensures, c.requires.marks)
    (walk_below c.args.web.now c.in_ok-walk.walk c.args.table.now.source c.args.to c.in_ok-walk.ensures.walk)
