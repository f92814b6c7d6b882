-- `begin_anew`: an unpaired top is taken from the list as the root.
use Rattle.std.proofs.Common.{arith, ◌≤◌, Some, ap, ◌∙◌, rules}
use Rattle.sg_match.proofs.Engine.begin_anew.Goals as goal
use Rattle.sg_match.proofs.Engine.begin_anew.Goals.{In-Some}
use Rattle.sg_match.proofs.EngineLemmas.{state_of}
use Rattle.sg_match.proofs.SearchStep.{begun}
use Rattle.sg_match.specs.Engine.{IsEngine}
use Rattle.sg_match.specs.State.{State}
use Rattle.sg_match.specs.Steps.{steps_left}

abbrev last : (c : In-Some) → State
last c = record (state_of c.self.inside) { exposed = c.pop.new.self.items; root = Some c.in-Some.root }

after : (c : In-Some) → IsEngine (last c) × (steps_left (last c) ≤ steps_left (state_of c.self.inside))
after c =
    begun (state_of c.self.inside) c.self.invariant.engine (ap (λ (s : State). s.root) c.self.view_is ∙ c.requires.bare) c.pop.new.self.items c.in-Some.root
    c.in-Some.ensures.items

pub invariant_of-self : goal.invariant_of-self
invariant_of-self c = let engine = (after (goal.at.invariant_of-self c).In-Some).0 in search rules

pub returns-in-Some-clause-engine : goal.returns-in-Some-clause-engine
returns-in-Some-clause-engine c = (after (goal.at.returns-in-Some-clause-engine c).In-Some).0

pub returns-in-Some-clause-left : goal.returns-in-Some-clause-left
returns-in-Some-clause-left c = grind (arith, after, c, c.self.view_is)
