use Rattle.std.proofs.Common.{arith}
use Rattle.std.proofs.lemmas.Grind.{elements}
use Rattle.sg_ranges.proofs.turning.turns.Goals as goal

pub returns-in_err-least-clause-turns : goal.returns-in_err-least-clause-turns
returns-in_err-least-clause-turns c = grind (arith, elements)

pub returns-in_err-least-clause-turning_points : goal.returns-in_err-least-clause-turning_points
returns-in_err-least-clause-turning_points c = grind (arith, elements)

pub costs-requires : goal.costs-requires
costs-requires c = grind (arith, elements)

pub returns-in_err-costs-clause-turns : goal.returns-in_err-costs-clause-turns
returns-in_err-costs-clause-turns c = grind (arith, elements)

pub returns-in_err-costs-clause-turning_points : goal.returns-in_err-costs-clause-turning_points
returns-in_err-costs-clause-turning_points c = grind (arith, elements)

pub listed-requires-clause-sum : goal.listed-requires-clause-sum
listed-requires-clause-sum c = grind (arith, elements)

pub listed-requires-clause-ground_state : goal.listed-requires-clause-ground_state
listed-requires-clause-ground_state c = grind (arith, elements)

pub listed-requires-clause-costs : goal.listed-requires-clause-costs
listed-requires-clause-costs c = grind (arith, elements)

pub returns-clause-turns : goal.returns-clause-turns
returns-clause-turns c = grind (arith, elements)

pub returns-clause-turning_points : goal.returns-clause-turning_points
returns-clause-turning_points c = grind (arith, elements)
