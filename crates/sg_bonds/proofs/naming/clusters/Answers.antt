use Rattle.std.proofs.Common.{rules}
use Rattle.sg_bonds.proofs.Weakening.{weakened_fit}
use Rattle.sg_bonds.proofs.naming.clusters.Goals as goal

pub unreachable-requires : goal.unreachable-requires
unreachable-requires c = weakened_fit c.args.planar.now.instance (search rules)
