-- `lengthen`: the leaf is no member yet, and all totals stay small.
use Rattle.std.proofs.Common.{◌+◌, List, pos, ap, ◌∙◌, subst, sym, arith}
use Rattle.sg_slack.proofs.LineLemmas.{line-below, line-fits, line-more}
use Rattle.sg_slack.specs.Line.{IsLine}
use Rattle.sg_slack.specs.Members.{Member, TotalsFit, grown}
use Rattle.sg_web_rows.proofs.near.lengthen.Goals as goal

pub add-requires-clause-fresh : goal.add-requires-clause-fresh
add-requires-clause-fresh c is = let low = line-below c.args.near.now.members c.args.leaf c.requires.line c.args.leaf is in omega (arith, low)

pub shift-requires-clause-fits : goal.shift-requires-clause-fits
shift-requires-clause-fits c =
    subst (λ (ms : List Member). TotalsFit (pos 1) ms) (sym c.add.ensures.members)
    (line-fits c.args.near.now.members c.args.leaf c.requires.line c.requires.small)

pub returns-clause-line : goal.returns-clause-line
returns-clause-line c =
    subst (λ (ms : List Member). IsLine ms (c.args.leaf + 1)) (sym (c.shift.ensures.members ∙ ap (grown (pos 1)) c.add.ensures.members))
    (line-more c.args.near.now.members c.args.leaf c.requires.line)
