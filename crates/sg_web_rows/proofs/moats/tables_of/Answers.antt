use Rattle.std.proofs.Common.{subst, sym, ◌+◌}
use Rattle.sg_tjoin.proofs.TableRows.{AreFirstTables, AreFirstTables-more}
use Rattle.sg_web_rows.proofs.moats.tables_of.Goals as goal

pub loop-terminal-preserved : goal.loop-terminal-preserved
loop-terminal-preserved c =
    let more = AreFirstTables-more c.args.web.now c.args.terminals.now c.loop-terminal.terminal-index c.loop-terminal.tables.items c.loop-terminal.invariant
    c.in_ok-distances.field-0 c.in_ok-distances.ensures.table c.in_ok-distances.ensures.source in
    subst (λ ts. AreFirstTables c.args.web.now c.args.terminals.now (c.loop-terminal.terminal-index + 1) ts) (sym c.in_ok-push.ensures.items) more
