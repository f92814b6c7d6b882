use Rattle.sg_calls.specs.Graphs.{bond_by}
use Rattle.sg_calls.proofs.RowLemmas.{made-more}
use Rattle.sg_calls.proofs.graphs.bonds_of.Goals as goal

pub loop-k-preserved : goal.loop-k-preserved
loop-k-preserved c =
    made-more (bond_by c.args.ends.now c.args.couplings.now) c.loop-k.bonds _ c.bond_by.result c.loop-k.k c.loop-k.invariant c.in_ok-push.ensures.ok
    c.bond_by.ensures
