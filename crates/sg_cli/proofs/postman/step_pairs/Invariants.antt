use Rattle.std.proofs.Common.{◌≡◌, map, take}
use Rattle.sg_cli.specs.Graphs.{pair_of_step}
use Rattle.sg_cli.proofs.postman.step_pairs.Given as goal

-- the pairs of the steps so far
abbrev pub invariant-loop-step : goal.invariant-loop-step
invariant-loop-step l = l.pairs.items ≡ map pair_of_step (take l.step-index l.steps)
