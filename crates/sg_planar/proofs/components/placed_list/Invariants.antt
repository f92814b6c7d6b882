use Rattle.std.proofs.Common.{◌≡◌, take}
use Rattle.sg_planar.specs.Splitting.{placed_darts}
use Rattle.sg_planar.proofs.components.placed_list.Given as goal

abbrev pub invariant-loop-dart : goal.invariant-loop-dart
invariant-loop-dart l = l.list ≡ placed_darts l.places (take l.dart-index l.darts)
