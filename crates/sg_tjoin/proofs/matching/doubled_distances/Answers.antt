use Rattle.std.proofs.Common.{arith, ◌≡◌}
use Rattle.std.proofs.lemmas.List.{get_or_read}
use Rattle.sg_moat.specs.Input.{blank_table, table_at}
use Rattle.sg_tjoin.proofs.CostRows.{FillsRows-more}
use Rattle.sg_tjoin.proofs.matching.doubled_distances.Goals as goal
use Rattle.sg_tjoin.proofs.matching.doubled_distances.Goals.{After-index-tables-i}

-- the table that is read
table_is : (c : After-index-tables-i) → c.index-tables-i.result ≡ table_at c.args.tables.now c.loop-i.i
table_is c = get_or_read c.args.tables.now c.loop-i.i c.index-tables-i.result (omega (arith, c.requires.count)) c.index-tables-i.is blank_table

pub fill_row-requires-clause-reaches : goal.fill_row-requires-clause-reaches
fill_row-requires-clause-reaches c =
    rw (table_is (goal.at.fill_row-requires-clause-reaches c).After-index-tables-i) (c.requires.reaches c.loop-i.i (omega arith))

pub loop-i-preserved : goal.loop-i-preserved
loop-i-preserved c =
    FillsRows-more c.args.terminals.now c.args.tables.now c.loop-i.i c.loop-i.costs c.fill_row.new.costs (omega arith) c.loop-i.invariant
    (rw (table_is (goal.at.loop-i-preserved c).After-index-tables-i) at c.fill_row.ensures)
