use Rattle.sg_bonds.proofs.WeakenedEnergy.{weakened_bound, weakened_cost, weakened_ground_state, weakened_rigid}
use Rattle.sg_bonds.proofs.law.weakened_bounds.Goals as goal

pub returns-clause-bound : goal.returns-clause-bound
returns-clause-bound c = λ inst scale amount s t good ground h. weakened_bound inst good scale amount s ground t h

pub returns-clause-ground_state : goal.returns-clause-ground_state
returns-clause-ground_state c = λ inst scale amount s good ground some. weakened_ground_state inst good scale amount s ground some

pub returns-clause-cost : goal.returns-clause-cost
returns-clause-cost c = λ inst scale amount s k cost good ground inside is. weakened_cost inst good scale amount s ground k inside cost is

pub returns-clause-rigid : goal.returns-clause-rigid
returns-clause-rigid c = λ inst scale amount s k good ground inside some small. weakened_rigid inst good scale amount s ground k inside some small
