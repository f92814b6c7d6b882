use Rattle.sg_bonds.proofs.Common.{◌∙◌, List, Bool, length, sym, ap, subst, has}
use Rattle.sg_bonds.specs.Cluster.{HasRigid}
use Rattle.sg_bonds.proofs.ClusterNames.{has_rigid}
use Rattle.sg_bonds.proofs.naming.clusters_by.Goals as goal

pub name_clusters-requires : goal.name_clusters-requires
name_clusters-requires c = record {
  count = ap length c.deref.ensures.value ∙ c.in_ok-set.ensures.count ∙ c.requires.costs.count;
  rigid = subst (λ (set : List Bool). HasRigid c.args.inst.now (has set)) (sym c.deref.ensures.value)
      (has_rigid c.args.inst.now c.args.costs.now c.in_ok-set.set.items c.requires.costs c.in_ok-set.ensures);
}
