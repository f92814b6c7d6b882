-- `nearest_kept`: leaf by leaf, where it is free.
use Rattle.std.proofs.Common.{Some, arith, refl, subst, ◌∙◌, ap}
use Rattle.sg_slack.specs.Kept.{nearest_at}
use Rattle.sg_slack.specs.Scan.{IsLesser, IsNearestFree}
use Rattle.sg_slack.proofs.NearLemmas.{Least-all}
use Rattle.sg_slack.proofs.ScanLemmas.{Least-if}
use Rattle.sg_slack.proofs.near.nearest_kept.Goals as goal

pub loop-v-preserved : goal.loop-v-preserved
loop-v-preserved c =
    let nearest = c.args.nearest.now in
    let v = c.loop-v.v in
    Least-if c.args.costs.now c.args.total.now (IsNearestFree c.args.costs.now nearest c.args.mark.now) (λ a b. b) v (nearest_at nearest v).leaf v
    c.is_free.result c.loop-v.best c.nearer_if-best.result
    (λ is. (refl, record { v_leaf = omega arith; nearest_is = refl; free = c.is_free.ensures.0 is }))
    (λ a b at. (at.1.nearest_is ∙ ap (λ w. (nearest_at nearest w).leaf) at.0, at.0, c.is_free.ensures.1 (rw (at.0) at at.1.free)))
    (λ is. subst (λ p. IsLesser c.loop-v.best (Some p) c.nearer_if-best.result) c.pair_by_key-pair.ensures (c.nearer_if-best.ensures.yes is))
    c.nearer_if-best.ensures.no c.loop-v.invariant

pub returns : goal.returns
returns c = grind (arith, Least-all, c.loop-v.invariant)
