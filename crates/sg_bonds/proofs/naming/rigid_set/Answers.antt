use Rattle.std.proofs.Common.{get_or, pos, rules, w64, FitsSigned}
use Rattle.std.proofs.lemmas.Int.{to_z-of_z}
use Rattle.sg_bonds.proofs.ClusterNames.{shows_more}
use Rattle.sg_bonds.proofs.naming.rigid_set.Goals as goal

pub loop-cost-preserved : goal.loop-cost-preserved
loop-cost-preserved c =
    let fits : FitsSigned w64 (get_or c.args.costs.now c.loop-cost.cost-index (pos 0)) = search rules in
    rw c.in_ok-push.ensures.items
    (shows_more c.args.costs.now c.loop-cost.set.items c.loop-cost.cost-index c.rigid.result c.loop-cost.invariant
    (rw (to_z-of_z w64 (get_or c.args.costs.now c.loop-cost.cost-index (pos 0)) fits) at c.rigid.ensures))
