use Rattle.std.proofs.Common.{rules}
use Rattle.sg_bonds.proofs.forcing.force.Goals as goal

pub returns : goal.returns
returns c = search rules
