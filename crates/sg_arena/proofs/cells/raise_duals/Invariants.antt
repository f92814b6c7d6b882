use Rattle.std.proofs.Common.{slice_index}
use Rattle.sg_arena.specs.CellWrites.{Rewrites, raised_cell}
use Rattle.sg_arena.proofs.cells.raise_duals.Given as goal

abbrev pub invariant-loop-node : goal.invariant-loop-node
invariant-loop-node l = Rewrites (raised_cell l.delta) (slice_index l.nodes) l.initial.cells l.cells l.node-index
