-- A table of each terminal before the next.
use Rattle.sg_tjoin.proofs.TableRows.{AreFirstTables}
use Rattle.sg_web_rows.proofs.moats.tables_of.Given as goal

abbrev pub invariant-loop-terminal : goal.invariant-loop-terminal
invariant-loop-terminal l = AreFirstTables l.web l.terminals l.terminal-index l.tables.items
