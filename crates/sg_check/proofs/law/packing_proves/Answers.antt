use Rattle.sg_check.proofs.WeakDuality.{proves_ground_state, proves_least_energy}
use Rattle.sg_check.proofs.law.packing_proves.Goals as goal

pub returns-clause-ground_state : goal.returns-clause-ground_state
returns-clause-ground_state c = λ inst s e loops good h. proves_ground_state inst good s e loops h

pub returns-clause-least_energy : goal.returns-clause-least_energy
returns-clause-least_energy c = λ inst s e loops good h. proves_least_energy inst good s e loops h
