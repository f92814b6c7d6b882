-- `is_metric`: the parts of the test are the whole of `IsMetric`.
use Rattle.std.proofs.Common.{rules}
use Rattle.sg_slack.proofs.MetricLemmas.{IsDirect-metric, IsMetric-parts}
use Rattle.sg_slack.proofs.metric.is_metric.Goals as goal

pub returns-then-are_fit : goal.returns-then-are_fit
returns-then-are_fit c =
    let t = c.args.costs.now in (
      (λ yes_direct. IsMetric-parts t (search rules) (search rules) (c.are_fit.ensures.0 (search rules)) (c.are_direct.ensures.0 yes_direct)),
      λ metric. c.are_direct.ensures.1 (IsDirect-metric t metric),
    )
