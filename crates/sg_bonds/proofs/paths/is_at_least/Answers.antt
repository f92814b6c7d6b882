use Rattle.std.proofs.Common.{rules}
use Rattle.sg_bonds.proofs.paths.is_at_least.Goals as goal

pub returns : goal.returns
returns c = search rules
