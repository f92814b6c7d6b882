use Rattle.std.proofs.Common.{rules}
use Rattle.sg_moat.specs.Input.{AreTerminalTables}
use Rattle.sg_tjoin.proofs.MetricLaws.{AreMetric-distances}
use Rattle.sg_web_rows.proofs.moats.cuts_of.Goals as goal

pub totals_fit-requires-clause-metric : goal.totals_fit-requires-clause-metric
totals_fit-requires-clause-metric g c =
    let web = c.args.web.now in
    let terminals = c.args.terminals.now in
    let tables = c.in_ok-tables.tables.items in
    let each : AreTerminalTables web terminals tables = search rules in
    rw (c.as_slice-nodes.ensures, c.deref.ensures.value)
    (AreMetric-distances web terminals tables c.requires.connected c.requires.terminals each c.edges-edges.ensures.web c.requires.even c.requires.light)
