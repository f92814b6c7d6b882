use Rattle.std.proofs.Common.{◌≡◌}
use Rattle.sg_trials.proofs.states.ask_all.Given as goal

abbrev pub invariant-loop-bond : goal.invariant-loop-bond
invariant-loop-bond l = l.states ≡ l.planar
