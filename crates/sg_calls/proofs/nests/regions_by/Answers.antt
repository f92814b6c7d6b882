use Rattle.std.proofs.Common.{rules}
use Rattle.sg_calls.specs.Crossing.{entry}
use Rattle.sg_calls.specs.Proofs.{region_numbered}
use Rattle.sg_calls.proofs.RowLemmas.{made-more}
use Rattle.sg_calls.proofs.nests.regions_by.Goals as goal

pub loop-r-preserved : goal.loop-r-preserved
loop-r-preserved c =
    made-more (λ i. region_numbered (entry c.args.parents.now i) (entry c.args.radii.now i)) c.loop-r.list _ c.region_by.result c.loop-r.r
    c.loop-r.invariant c.in_ok-push.ensures.ok (search rules)
