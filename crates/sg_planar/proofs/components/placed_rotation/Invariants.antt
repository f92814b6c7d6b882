use Rattle.std.proofs.Common.{◌≡◌, map, take}
use Rattle.sg_model.specs.Rotation.{darts_of}
use Rattle.sg_planar.specs.Splitting.{placed_darts}
use Rattle.sg_planar.proofs.components.placed_rotation.Given as goal

abbrev pub invariant-loop-spin : goal.invariant-loop-spin
invariant-loop-spin l = l.rotation ≡ map (λ x. placed_darts l.places (darts_of l.inst x)) (take l.spin-index l.spins)
