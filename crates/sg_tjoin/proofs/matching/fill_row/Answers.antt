use Rattle.std.proofs.Common.{arith}
use Rattle.std.proofs.lemmas.Int.{ints}
use Rattle.sg_tjoin.proofs.CostRows.{FillsRow-more}
use Rattle.sg_tjoin.proofs.matching.fill_row.Goals as goal

pub loop-j-preserved : goal.loop-j-preserved
loop-j-preserved c =
    let reach = c.requires.reaches c.loop-j.j 0 (omega (arith, c.requires.row, c.requires.size, c.loop-j-test.true)) in
    FillsRow-more c.args.terminals.now c.args.table.now c.args.i c.loop-j.j c.args.costs.now c.loop-j.costs c.set.new.self _
    c.loop-j-test.true c.requires.row c.loop-j.invariant c.set.ensures (omega (arith, ints, c.distance.ensures, reach.whole, reach.near))
