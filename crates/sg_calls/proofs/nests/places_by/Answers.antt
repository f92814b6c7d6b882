use Rattle.std.proofs.Common.{rules}
use Rattle.sg_calls.specs.Crossing.{entry}
use Rattle.sg_calls.specs.Proofs.{place_numbered}
use Rattle.sg_calls.proofs.RowLemmas.{made-more}
use Rattle.sg_calls.proofs.nests.places_by.Goals as goal

pub loop-x-preserved : goal.loop-x-preserved
loop-x-preserved c =
    made-more (λ i. place_numbered (entry c.args.regions.now i) (entry c.args.at_radii.now i)) c.loop-x.list _ c.place_by.result c.loop-x.x
    c.loop-x.invariant c.in_ok-push.ensures.ok (search rules)
