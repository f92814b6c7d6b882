use Rattle.std.proofs.Common.{◌≡◌, ◌+◌, ◌-◌, ◌*◌, map}
use Rattle.std.specs.List.{range_with_len}
use Rattle.sg_lattice.proofs.shape.Shape.round_seam.Given as goal

abbrev pub invariant-loop-r : goal.invariant-loop-r
invariant-loop-r l = l.seam ≡ map (λ r. r * l.self.cols + (l.self.cols - 1)) (range_with_len 0 l.r)
