use Rattle.sg_ensemble.proofs.samples.ensemble_on.Goals as goal

pub sum-requires-clause-small : goal.sum-requires-clause-small
sum-requires-clause-small g c = rw c.as_slice.ensures c.in_ok-walls.ensures.small

pub sum_of_squares-requires-clause-small : goal.sum_of_squares-requires-clause-small
sum_of_squares-requires-clause-small g c = rw c.as_slice-2.ensures c.in_ok-walls.ensures.small

pub returns-clause-walls : goal.returns-clause-walls
returns-clause-walls g c = c.in_ok-walls.ensures.walls

pub returns-clause-rest : goal.returns-clause-rest
returns-clause-rest g c = c.in_ok-walls.ensures.rest

pub returns-clause-made : goal.returns-clause-made
returns-clause-made g c = c.walls.ensures.made

pub returns-clause-seeds : goal.returns-clause-seeds
returns-clause-seeds g c = c.walls.ensures.seeds

pub returns-in_err-walls-clause-made : goal.returns-in_err-walls-clause-made
returns-in_err-walls-clause-made g c = c.walls.ensures.made

pub returns-in_err-walls-clause-seeds : goal.returns-in_err-walls-clause-seeds
returns-in_err-walls-clause-seeds g c = c.walls.ensures.seeds
