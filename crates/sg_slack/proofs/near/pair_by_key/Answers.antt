-- `pair_by_key`: the slack by the key that is kept.
use Rattle.std.proofs.Common.{◌≡◌, ap, arith, to_z, of_z, w64}
use Rattle.std.proofs.lemmas.Int.{ints}
use Rattle.sg_slack.specs.Slack.{slack_of}
use Rattle.sg_slack.proofs.near.pair_by_key.Goals as goal

pub narrow_difference-left-requires : goal.narrow_difference-left-requires
narrow_difference-left-requires c =
    let first = c.requires.fits.first c.args.nearest.leaf c.args.v c.requires.u c.requires.v in
    omega (arith, ints, c.requires.key)

pub difference-requires : goal.difference-requires
difference-requires c =
    let first = c.requires.fits.first c.args.nearest.leaf c.args.v c.requires.u c.requires.v in
    let whole = c.requires.fits.slack c.args.nearest.leaf c.args.v c.requires.u c.requires.v in
    omega (arith, ints, c.requires.key, c.narrow_difference-left.ensures)

slack_is : (c : goal.After-difference) → to_z w64 (of_z w64 c.difference.result) ≡ slack_of c.args.costs.now c.args.total.now c.args.nearest.leaf c.args.v
slack_is c =
    let first = c.requires.fits.first c.args.nearest.leaf c.args.v c.requires.u c.requires.v in
    let whole = c.requires.fits.slack c.args.nearest.leaf c.args.v c.requires.u c.requires.v in
    let key = c.requires.key in
    omega (arith, ints, c.narrow_difference-left.ensures, c.difference.ensures)

pub returns : goal.returns
returns c = ap (λ z. record { u = c.args.nearest.leaf; v = c.args.v; slack = z }) (slack_is c)
