use Rattle.std.proofs.Common.{arith}
use Rattle.std.proofs.lemmas.Grind.{common_steps, elements}
use Rattle.sg_ground.proofs.parts.solve_all.Goals as goal

pub returns-in-Several-clause-solution : goal.returns-in-Several-clause-solution
returns-in-Several-clause-solution c = grind (arith, common_steps)

pub returns-in-Several-clause-too_large : goal.returns-in-Several-clause-too_large
returns-in-Several-clause-too_large c = grind (arith, common_steps)

pub returns-in-Several-clause-steps : goal.returns-in-Several-clause-steps
returns-in-Several-clause-steps c = grind (arith, elements)
