use Rattle.sg_tjoin.proofs.TableRows.{AreFirstTables-more}
use Rattle.sg_tjoin.proofs.tables.terminal_tables.Goals as goal

pub loop-terminal-preserved : goal.loop-terminal-preserved
loop-terminal-preserved c =
    rw c.in_ok-push.ensures.items
    (AreFirstTables-more c.args.web.now c.args.terminals.now c.loop-terminal.terminal-index c.loop-terminal.tables.items c.loop-terminal.invariant
    c.in_ok-distances_over.field-0 c.in_ok-distances_over.ensures.table c.in_ok-distances_over.ensures.source)
