use Rattle.std.proofs.Common.{◌∙◌, sym}
use Rattle.sg_tjoin.proofs.MetricLaws.{IsMetric-rows, IsPairing-matched, NoSlackIsNegative-matched, both, same_cost}
use Rattle.sg_tjoin.proofs.matching.matching.Goals as goal

pub run-requires-clause-metric : goal.run-requires-clause-metric
run-requires-clause-metric c = IsMetric-rows c.args.terminals.now c.args.tables.now c.in_ok-costs.costs c.requires c.in_ok-costs.ensures

pub returns-clause-near : goal.returns-clause-near
returns-clause-near c =
    both c.run.result _ _ _ (λ m leaves slack. NoSlackIsNegative-matched c.args.terminals.now c.args.tables.now c.in_ok-costs.costs c.requires
    c.in_ok-costs.ensures m.family leaves slack) c.run.ensures.leaves c.run.ensures.slack

pub returns-clause-pairing : goal.returns-clause-pairing
returns-clause-pairing c =
    both c.run.result _ _ _ (λ m leaves matching. IsPairing-matched c.args.terminals.now c.args.tables.now c.in_ok-costs.costs c.requires
    c.in_ok-costs.ensures m.family leaves m.mates matching) c.run.ensures.leaves c.run.ensures.matching

pub returns-clause-duals : goal.returns-clause-duals
returns-clause-duals c =
    both c.run.result _ _ _ (λ m pairing duals. sym (same_cost c.args.terminals.now c.args.tables.now c.in_ok-costs.costs c.requires
    c.in_ok-costs.ensures m.mates pairing) ∙ duals) (returns-clause-pairing c) c.run.ensures.duals

pub returns-clause-bounded : goal.returns-clause-bounded
returns-clause-bounded c = rw c.in_ok-costs.ensures.size at c.run.ensures.bounded
