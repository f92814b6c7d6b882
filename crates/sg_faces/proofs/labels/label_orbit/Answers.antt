use Rattle.sg_faces.proofs.OrbitWalks.{walking_more, labelled_more}
use Rattle.sg_faces.proofs.labels.label_orbit.Goals as goal

pub loop-labels-preserved : goal.loop-labels-preserved
loop-labels-preserved c =
    walking_more c.args.table.now c.args.labels.now c.loop-labels.labels c.args.start c.args.label c.loop-labels.at c.requires.is_move
    c.loop-labels.invariant c.loop-labels-test.true c.requires.room

pub returns : goal.returns
returns c =
    labelled_more c.args.table.now c.args.labels.now c.loop-labels.labels c.args.start c.args.label c.loop-labels.at c.requires.is_move
    c.requires.labelled c.requires.start_in c.requires.unlabelled_start c.requires.room c.loop-labels.invariant c.loop-labels-test.false c.requires.rank
