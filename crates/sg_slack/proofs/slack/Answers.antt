use Rattle.std.proofs.Common.{arith, rules}
use Rattle.std.proofs.lemmas.Int.{ints}
use Rattle.sg_slack.proofs.slack.Goals as goal

pub returns : goal.returns
returns c =
    let first = c.requires.fits.first c.args.u c.args.v c.requires.u c.requires.v in
    let whole = c.requires.fits.slack c.args.u c.args.v c.requires.u c.requires.v in
    omega (arith, ints, c.cost.ensures, c.difference.ensures, c.difference-2.ensures)

pub difference-requires : goal.difference-requires
difference-requires c = search rules

pub difference-requires-2 : goal.difference-requires-2
difference-requires-2 c = search rules
