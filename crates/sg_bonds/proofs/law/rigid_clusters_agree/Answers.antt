use Rattle.sg_bonds.proofs.RigidProducts.{cluster_products}
use Rattle.sg_bonds.proofs.law.rigid_clusters_agree.Goals as goal

pub returns : goal.returns
returns c = λ inst i j k good first second s t gs gt. cluster_products inst good s t gs gt i j k first second
