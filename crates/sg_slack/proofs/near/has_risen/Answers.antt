-- `has_risen`: the total less the rise is the base exactly if it has risen by so much.
use Rattle.std.proofs.Common.{arith, eq-eqb}
use Rattle.std.proofs.lemmas.Int.{ints, to_z-of_z}
use Rattle.sg_slack.proofs.near.has_risen.Goals as goal

pub returns-in-Outer-clause-each : goal.returns-in-Outer-clause-each
returns-in-Outer-clause-each c = grind (arith, ints, to_z-of_z, eq-eqb, c.from-now.ensures)

pub returns-in-Outer-clause-risen : goal.returns-in-Outer-clause-risen
returns-in-Outer-clause-risen c = grind (arith, ints, to_z-of_z, eq-eqb, c.from-now.ensures)

pub returns-in_default-clause-each : goal.returns-in_default-clause-each
returns-in_default-clause-each c = λ is. absurd (c.in_default.not-Outer is.0)
