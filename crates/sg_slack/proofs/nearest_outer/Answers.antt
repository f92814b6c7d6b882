use Rattle.std.proofs.Common.{◌<◌, ◌+◌, Some, true, refl, subst, arith, sym}
use Rattle.std.proofs.lemmas.Bool.{false≢true}
use Rattle.sg_slack.specs.Scan.{IsLesser, IsOuterOuterOf}
use Rattle.sg_slack.specs.Slack.{Least}
use Rattle.sg_slack.proofs.ScanLemmas.{Least-if, Least-none}
use Rattle.sg_slack.proofs.nearest_outer.Goals as goal
use Rattle.sg_slack.proofs.nearest_outer.Goals.{then-is_other_outer, else-is_other_outer}

pub loop-v-preserved : goal.loop-v-preserved
loop-v-preserved c =
    let costs = c.args.costs.now in
    let total = c.args.total.now in
    let Is = IsOuterOuterOf costs c.args.top.now c.args.mark.now c.args.u in
    let v = c.loop-v.v in
    elim c.if-is_other_outer.branch [
      | then-is_other_outer w ↦
          let at = c.is_other_outer.ensures.0 w.if-is_other_outer.true in
          subst (Least costs total (λ a b. (b < v + 1) × Is a b)) (sym w.best-is)
          (Least-if costs total Is (λ a b. b) v c.args.u v true c.loop-v.best w.nearer_if-best.result
          (λ is. (refl, (refl, record { u_leaf = c.requires.leaf; v_leaf = omega arith; u_outer = c.requires.outer; v_outer = at.0; apart = at.1 })))
          (λ a b here. (here.1.0, here.0, refl))
          (λ is. subst (λ p. IsLesser c.loop-v.best (Some p) w.nearer_if-best.result) w.pair_of.ensures (w.nearer_if-best.ensures.yes refl))
          (λ none. absurd (false≢true (sym none))) c.loop-v.invariant)
      | else-is_other_outer w ↦ grind (arith, Least-none, false≢true, w.best-is, w.if-is_other_outer.false, c.is_other_outer.ensures.1, c.loop-v.invariant)
    ]
