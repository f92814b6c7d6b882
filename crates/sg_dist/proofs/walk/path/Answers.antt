use Rattle.std.proofs.Common.{arith}
use Rattle.sg_dist.proofs.Ways.{once_reversed, way_distance, way_once, way_walk, way_weight}
use Rattle.sg_dist.proofs.walk.path.Goals as goal

pub returns : goal.returns
returns c = grind (arith, way_walk, way_weight, way_distance, once_reversed, way_once)
