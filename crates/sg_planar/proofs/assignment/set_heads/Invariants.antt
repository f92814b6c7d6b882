use Rattle.std.proofs.Common.{take}
use Rattle.sg_base.specs.Sets.{is_marked}
use Rattle.sg_planar.specs.Following.{HeadsSet}
use Rattle.sg_planar.proofs.assignment.set_heads.Given as goal

abbrev pub invariant-loop-dart : goal.invariant-loop-dart
invariant-loop-dart l = HeadsSet l.inst (is_marked l.unlike) l.spin (take l.dart-index l.dart-items) l.initial.down l.down
