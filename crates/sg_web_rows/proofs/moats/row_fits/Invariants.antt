-- The leaves before the next are near enough.
use Rattle.std.proofs.Common.{ℕ, ◌+◌, ◌*◌, ◌<◌, ◌≤◌, get_or}
use Rattle.sg_arena.specs.Family.{total_of}
use Rattle.sg_graph.specs.Table.{length_to}
use Rattle.sg_web_rows.proofs.moats.row_fits.Given as goal

abbrev pub invariant-loop-j : goal.invariant-loop-j
invariant-loop-j l = (j : ℕ) → j < l.j → total_of l.family l.i + total_of l.family j ≤ 2 * length_to l.table (get_or l.terminals j 0)
