-- `costs_of`: the table keeps its size.
use Rattle.std.proofs.Common.{◌≡◌}
use Rattle.sg_web_rows.proofs.costs.costs_of.Given as goal

abbrev pub invariant-loop-pair : goal.invariant-loop-pair
invariant-loop-pair l = l.costs.size ≡ 8
