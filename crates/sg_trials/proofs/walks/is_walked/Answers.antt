use Rattle.std.proofs.Common.{rules}
use Rattle.sg_trials.proofs.walks.is_walked.Goals as goal

pub spin_walk-requires-clause-fits : goal.spin_walk-requires-clause-fits
spin_walk-requires-clause-fits g c = c.in_ok-fits_faces.ensures.0 (search rules)
