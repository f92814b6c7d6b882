use Rattle.sg_ensemble.proofs.DrawnWalls.{none_of}
use Rattle.sg_ensemble.proofs.samples.ensemble.Goals as goal

pub returns-in_err-drawing-clause-made : goal.returns-in_err-drawing-clause-made
returns-in_err-drawing-clause-made g c =
    let old = (goal.Disorder-dyn g (c.args.law.now.vtable, c.args.law.now.value)).next c.args.law.now.value in
    none_of c.args.rows c.args.cols c.args.count old c.know_counts.ensures
