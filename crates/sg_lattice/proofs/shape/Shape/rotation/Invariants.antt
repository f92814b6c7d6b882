use Rattle.std.proofs.Common.{◌≡◌, ◌/◌, ◌%◌, map}
use Rattle.std.specs.List.{range_with_len}
use Rattle.sg_lattice.specs.Tables.{darts}
use Rattle.sg_lattice.proofs.shape.Shape.rotation.Given as goal

abbrev pub invariant-loop-i : goal.invariant-loop-i
invariant-loop-i l = l.rotation ≡ map (λ i. darts l.self.kind l.self.rows l.self.cols (i / l.self.cols) (i % l.self.cols)) (range_with_len 0 l.i)
