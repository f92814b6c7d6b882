use Rattle.sg_ground.proofs.Allowed.{all_fit, program_fits}
use Rattle.sg_ground.proofs.allowance.tables_fit.Goals as goal

pub returns-clause-program : goal.returns-clause-program
returns-clause-program c = λ inst few_spins few_bonds exceeds. program_fits inst few_spins few_bonds exceeds

pub returns-clause-any : goal.returns-clause-any
returns-clause-any c = λ inst exceeds. all_fit inst exceeds
