use Rattle.sg_bonds.proofs.ForcedMinimum.{forced_product, forced_minimum}
use Rattle.sg_bonds.proofs.law.forced_minimum.Goals as goal

pub returns-clause-forced : goal.returns-clause-forced
returns-clause-forced c = λ inst k p m good inside up large s ground. forced_product inst good k inside p up m large s ground

pub returns-clause-minimum : goal.returns-clause-minimum
returns-clause-minimum c = λ inst k p m good inside up large e least. forced_minimum inst good k inside p up m large e least
