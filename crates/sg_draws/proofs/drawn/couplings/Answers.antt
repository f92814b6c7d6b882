use Rattle.std.proofs.Common.{rules}
use Rattle.sg_draws.proofs.drawn.couplings.Goals as goal

pub returns-clause-drawn : goal.returns-clause-drawn
returns-clause-drawn g c = search rules
