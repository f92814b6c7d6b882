-- The table keeps its size.
use Rattle.std.proofs.Common.{◌≡◌}
use Rattle.sg_web_rows.proofs.costs.table.Given as goal

abbrev pub invariant-loop-u : goal.invariant-loop-u
invariant-loop-u g l = l.costs.size ≡ l.leaves
