use Rattle.std.proofs.Common.{Some, refl, subst, arith}
use Rattle.sg_slack.specs.Scan.{IsLesser, IsOuterFreeOf}
use Rattle.sg_slack.proofs.ScanLemmas.{Least-if}
use Rattle.sg_slack.proofs.nearest_free.Goals as goal

pub loop-v-preserved : goal.loop-v-preserved
loop-v-preserved c =
    Least-if c.args.costs.now c.args.total.now (IsOuterFreeOf c.args.costs.now c.args.mark.now c.args.u) (λ a b. b) c.loop-v.v c.args.u c.loop-v.v
    c.is_free.result c.loop-v.best c.nearer_if-best.result
    (λ is. (refl, (refl, record { u_leaf = c.requires.leaf; v_leaf = omega arith; outer = c.requires.outer; free = c.is_free.ensures.0 is })))
    (λ a b at. (at.1.0, at.0, c.is_free.ensures.1 (rw (at.0) at at.1.1.free)))
    (λ is. subst (λ p. IsLesser c.loop-v.best (Some p) c.nearer_if-best.result) c.pair_of-pair.ensures (c.nearer_if-best.ensures.yes is))
    c.nearer_if-best.ensures.no c.loop-v.invariant
