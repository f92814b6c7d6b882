use Rattle.std.proofs.Common.{All, arith, length, subst, sym, ◌<◌, ◌≡◌}
use Rattle.std.proofs.lemmas.List.{get_or_read}
use Rattle.sg_moat.specs.Input.{blank_table, table_at}
use Rattle.sg_tjoin.specs.Doubled.{Reaches}
use Rattle.sg_web_rows.proofs.TotalSlacks.{NoSlackIsNegative-totals}
use Rattle.sg_web_rows.proofs.moats.totals_fit.Goals as goal

pub row_fits-requires-clause-reaches : goal.row_fits-requires-clause-reaches
row_fits-requires-clause-reaches c =
    let low : c.loop-i.i < length c.args.terminals.now = omega arith in
    let is : c.index-tables-i.result ≡ table_at c.args.tables.now c.loop-i.i = get_or_read c.args.tables.now c.loop-i.i c.index-tables-i.result
    (omega (arith, low, c.requires.metric.count)) c.index-tables-i.is blank_table in
    subst (λ t. All (Reaches t) c.args.terminals.now) (sym is) (c.requires.metric.reaches c.loop-i.i low)

pub returns : goal.returns
returns c = λ _.
    NoSlackIsNegative-totals c.args.family.now c.args.terminals.now c.args.tables.now c.requires.leaves c.requires.metric
    (λ i j low less. c.loop-i.invariant i j (omega arith) less)
