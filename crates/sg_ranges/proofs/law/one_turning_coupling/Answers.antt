use Rattle.sg_ranges.proofs.MovedCouplings.{one_turn, parity, turn_from_cost, turn_parts}
use Rattle.sg_ranges.proofs.law.one_turning_coupling.Goals as goal

pub returns-clause-parity : goal.returns-clause-parity
returns-clause-parity c = λ inst s t good a b. parity inst s t good a b

pub returns-clause-one : goal.returns-clause-one
returns-clause-one c = λ inst k t u good inside g h. one_turn inst good k inside t u g h

pub returns-clause-parts : goal.returns-clause-parts
returns-clause-parts c = λ inst k t good inside h. turn_parts inst good k inside t h

pub returns-clause-from_cost : goal.returns-clause-from_cost
returns-clause-from_cost c = λ inst k t x s good inside ground cost twice. turn_from_cost inst good k inside t x s ground cost twice
