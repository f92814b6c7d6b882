use Rattle.std.proofs.Common.{sym, subst}
use Rattle.sg_bonds.specs.Cluster.{AreClusters}
use Rattle.sg_bonds.proofs.ClusterNames.{are_clusters}
use Rattle.sg_bonds.proofs.naming.name_clusters.Goals as goal

pub returns : goal.returns
returns c =
    subst (AreClusters c.args.inst.now) (sym c.from_vec.ensures)
    (are_clusters c.args.inst.now c.args.set.now c.in_ok-names.names.items c.requires.rigid c.in_ok-names.ensures)
