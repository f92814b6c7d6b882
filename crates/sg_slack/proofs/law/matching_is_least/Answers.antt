-- `matching_is_least`: weak duality, and equality for a matching.
use Rattle.sg_slack.proofs.DualBound.{cost-is_duals, duals-le_cost, matching_least}
use Rattle.sg_slack.proofs.law.matching_is_least.Goals as goal

pub returns-clause-cost : goal.returns-clause-cost
returns-clause-cost c = λ f cost mates matching. cost-is_duals f mates cost matching

pub returns-clause-bound : goal.returns-clause-bound
returns-clause-bound c = λ f cost other fam slack pairing. duals-le_cost f other pairing cost fam slack

pub returns-clause-least : goal.returns-clause-least
returns-clause-least c = λ f cost mates other fam slack matching pairing. matching_least f cost mates other fam slack matching pairing
