use Rattle.sg_tjoin.proofs.matching.run.Goals as goal

pub returns-clause-slack : goal.returns-clause-slack
returns-clause-slack g c = rw c.in_ok-engine.ensures.table at c.run.ensures.slack

pub returns-clause-bounded : goal.returns-clause-bounded
returns-clause-bounded g c = rw c.in_ok-engine.ensures.table at c.run.ensures.bounded

pub returns-clause-matching : goal.returns-clause-matching
returns-clause-matching g c = rw c.in_ok-engine.ensures.table at c.run.ensures.matching

pub returns-clause-duals : goal.returns-clause-duals
returns-clause-duals g c = rw c.in_ok-engine.ensures.table at c.run.ensures.duals
