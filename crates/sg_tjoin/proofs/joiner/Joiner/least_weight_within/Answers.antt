-- What is asked of the graph of the joiner is asked of the graph that its contract sees.
use Rattle.sg_tjoin.proofs.joiner.Joiner.least_weight_within.Goals as goal

pub least_weight_by-requires-clause-connected : goal.least_weight_by-requires-clause-connected
least_weight_by-requires-clause-connected c = rw c.self.view_is c.requires.connected

pub least_weight_by-requires-clause-terminals : goal.least_weight_by-requires-clause-terminals
least_weight_by-requires-clause-terminals c = rw c.self.view_is c.requires.terminals

pub least_weight_by-requires-clause-light : goal.least_weight_by-requires-clause-light
least_weight_by-requires-clause-light c = rw c.self.view_is c.requires.light

pub returns-clause-least : goal.returns-clause-least
returns-clause-least c = rw c.self.view_is at c.least_weight_by.ensures.least

pub returns-clause-weight : goal.returns-clause-weight
returns-clause-weight c = rw c.self.view_is at c.least_weight_by.ensures.weight

pub returns-clause-proves : goal.returns-clause-proves
returns-clause-proves c = rw c.self.view_is at c.least_weight_by.ensures.proves

pub returns-clause-too_large : goal.returns-clause-too_large
returns-clause-too_large c = rw c.self.view_is at c.least_weight_by.ensures.too_large
