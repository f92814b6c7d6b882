use Rattle.std.proofs.Common.{rules}
use Rattle.sg_wall.proofs.WallTables.{walls_fit}
use Rattle.sg_wall.proofs.walls.wall.Goals as goal

pub unreachable-requires : goal.unreachable-requires
unreachable-requires c = walls_fit c.args.planar.now.instance (search rules)
