use Rattle.std.proofs.Common.{take}
use Rattle.sg_model.specs.Rotation.{darts_of}
use Rattle.sg_planar.specs.Walk.{has}
use Rattle.sg_planar.specs.Search.{Visits}
use Rattle.sg_planar.proofs.breadth_first.visit.Given as goal

abbrev pub invariant-loop-dart : goal.invariant-loop-dart
invariant-loop-dart l =
    Visits l.inst (has l.set) l.spin (take l.dart-index (darts_of l.inst l.spin)) l.initial.marks l.marks l.initial.order.items l.order.items
