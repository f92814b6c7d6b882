use Rattle.std.proofs.Common.{rules}
use Rattle.sg_ground.proofs.Allowed.{all_fit}
use Rattle.sg_ground.proofs.solving.solve.Goals as goal

pub unreachable-requires : goal.unreachable-requires
unreachable-requires c = all_fit c.args.planar.now.instance (search rules)
