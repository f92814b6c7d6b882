use Rattle.sg_calls.specs.Networks.{edge_by}
use Rattle.sg_calls.proofs.RowLemmas.{made-more}
use Rattle.sg_calls.proofs.networks.edges_of.Goals as goal

pub loop-k-preserved : goal.loop-k-preserved
loop-k-preserved c =
    made-more (edge_by c.args.ends.now c.args.weights.now) c.loop-k.edges _ c.edge_by.result c.loop-k.k c.loop-k.invariant c.in_ok-push.ensures.ok
    c.edge_by.ensures
