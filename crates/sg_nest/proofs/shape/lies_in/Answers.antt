use Rattle.std.proofs.Common.{rules}
use Rattle.sg_nest.proofs.shape.lies_in.Goals as goal

pub returns-then-region-regions : goal.returns-then-region-regions
returns-then-region-regions c = search rules
