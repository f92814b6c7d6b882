-- `is_direct`: each leaf was tried as a way round.
use Rattle.std.proofs.Common.{below_more, rules}
use Rattle.sg_slack.specs.Fit.{IsNoShortcut}
use Rattle.sg_slack.proofs.metric.is_direct.Goals as goal

pub loop-v-preserved : goal.loop-v-preserved
loop-v-preserved c = below_more (IsNoShortcut c.args.costs.now c.args.u) c.loop-v.v c.loop-v.invariant (c.is_no_shortcut.ensures.0 (search rules))
