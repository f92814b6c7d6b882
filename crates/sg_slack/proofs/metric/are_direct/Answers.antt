-- `are_direct`: each leaf was tried as a start.
use Rattle.std.proofs.Common.{below_more, rules}
use Rattle.sg_slack.specs.Fit.{IsDirect}
use Rattle.sg_slack.proofs.metric.are_direct.Goals as goal

pub loop-u-preserved : goal.loop-u-preserved
loop-u-preserved c = below_more (IsDirect c.args.costs.now) c.loop-u.u c.loop-u.invariant (c.is_direct.ensures.0 (search rules))
