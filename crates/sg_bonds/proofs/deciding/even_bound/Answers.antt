use Rattle.std.proofs.Common.{rules}
use Rattle.sg_bonds.proofs.deciding.even_bound.Goals as goal

pub returns : goal.returns
returns c = search rules
