use Rattle.std.proofs.Common.{◌≡◌, ◌*◌, ◌≤◌, ◌^◌, take, sum_by}
use Rattle.sg_check.specs.Packing.{loop_weight}
use Rattle.sg_check.proofs.loads.sum_of_weights.Given as goal

abbrev pub invariant-loop-entry : goal.invariant-loop-entry
invariant-loop-entry l = record { value : l.total ≡ sum_by loop_weight (take l.entry-index l.loops); size : l.total ≤ l.entry-index * 2 ^ 64 }
