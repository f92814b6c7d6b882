use Rattle.std.proofs.Common.{rules}
use Rattle.sg_bonds.proofs.bounds.noted.Goals as goal

pub returns-then-cost-bound : goal.returns-then-cost-bound
returns-then-cost-bound c = search rules
