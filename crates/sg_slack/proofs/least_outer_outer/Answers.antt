use Rattle.std.proofs.Common.{arith, ◌<◌, ◌+◌, subst, sym}
use Rattle.sg_slack.specs.Slack.{IsOuterOuter, Least}
use Rattle.sg_slack.proofs.ScanLemmas.{Least-more, Least-none}
use Rattle.sg_slack.proofs.least_outer_outer.Goals as goal
use Rattle.sg_slack.proofs.least_outer_outer.Goals.{in-Outer, in_default}

pub loop-u-preserved : goal.loop-u-preserved
loop-u-preserved c =
    let costs = c.args.costs.now in
    let total = c.args.total.now in
    let Is = IsOuterOuter costs c.args.top.now c.args.mark.now in
    let u = c.loop-u.u in
    elim c.match-mark-u.branch [
      | in-Outer w ↦
          subst (Least costs total (λ a b. (a < u + 1) × Is a b)) (sym w.best-is)
          (Least-more costs total Is (λ a b. a) u c.loop-u.best w.nearest_outer.result w.nearer-best.result w.nearer-best.ensures c.loop-u.invariant
          w.nearest_outer.ensures)
      | in_default w ↦ grind (arith, Least-none, w.best-is, c.loop-u.invariant)
    ]
