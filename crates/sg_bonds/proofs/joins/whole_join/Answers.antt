use Rattle.sg_bonds.proofs.JoinsFound.{whole_least}
use Rattle.sg_bonds.proofs.joins.whole_join.Goals as goal

pub returns-clause-join : goal.returns-clause-join
returns-clause-join c = λ k l.
    whole_least c.args.judged.now.web c.args.judged.now.terminals k l c.args.marks.now c.requires.count c.in_ok-edges.edges c.in_ok-edges.ensures
    (c.in_ok-proves.ensures.least c.if-not-branch.false)
