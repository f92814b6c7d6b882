use Rattle.std.proofs.Common.{arith, rules}
use Rattle.std.proofs.lemmas.Grind.{elements}
use Rattle.sg_planar.proofs.fitness.judge.Goals as goal

pub euler_number-euler-requires-clause-faces : goal.euler_number-euler-requires-clause-faces
euler_number-euler-requires-clause-faces c = grind (arith, elements)

pub returns-clause-faces : goal.returns-clause-faces
returns-clause-faces c = grind (arith, elements)

pub returns-clause-components : goal.returns-clause-components
returns-clause-components c = grind (arith, elements)

pub returns-then-euler-ne2-clause-unfit : goal.returns-then-euler-ne2-clause-unfit
returns-then-euler-ne2-clause-unfit c = search rules

pub returns-clause-fit : goal.returns-clause-fit
returns-clause-fit c = search rules
