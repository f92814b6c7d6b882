-- `agrees`: the members are the outer leaves, with their totals.
use Rattle.std.proofs.Common.{arith}
use Rattle.sg_slack.proofs.LineLemmas.{line-agree, line-below, line-member}
use Rattle.sg_web_rows.proofs.near.agrees.Goals as goal

pub least-free-requires-clause-members : goal.least-free-requires-clause-members
least-free-requires-clause-members g c = λ u low.
    let marked = c.fill.ensures.marks u (omega (arith, low, c.fill.ensures.marks_count, c.requires.marks)) in (
      (λ outer. line-member c.args.near.now.members c.args.place c.requires.line u (marked.0 outer)),
      (λ is. marked.1 (line-below c.args.near.now.members c.args.place c.requires.line u is)),
    )

pub least-free-requires-clause-agree : goal.least-free-requires-clause-agree
least-free-requires-clause-agree g c =
    line-agree c.args.near.now.members c.args.place c.requires.line c.fill.new.totals
    (omega (arith, c.fill.ensures.totals_count, c.requires.totals, c.requires.within)) c.fill.ensures.totals
