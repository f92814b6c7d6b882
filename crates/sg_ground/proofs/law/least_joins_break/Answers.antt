use Rattle.sg_ground.proofs.BrokenJoins.{IsJoin-broken, ground_by_join, least_energy_by_join}
use Rattle.sg_ground.proofs.law.least_joins_break.Goals as goal

pub returns-clause-join : goal.returns-clause-join
returns-clause-join c = λ inst faces s good labels assigned. IsJoin-broken inst faces good labels s assigned

pub returns-clause-least : goal.returns-clause-least
returns-clause-least c = λ inst faces s edges good labels assigned breaks least. ground_by_join inst faces good labels s edges assigned breaks least

pub returns-clause-energy : goal.returns-clause-energy
returns-clause-energy c = λ p edges planar connected least. least_energy_by_join p planar connected edges least
