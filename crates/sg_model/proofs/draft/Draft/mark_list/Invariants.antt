use Rattle.std.proofs.Common.{◌≡◌, ℕ, ◌<◌, false, take}
use Rattle.sg_model.specs.Rotation.{darts_of, is_dart_of}
use Rattle.sg_model.specs.Misplaced.{is_misplaced}
use Rattle.sg_base.specs.Sets.{is_marked}
use Rattle.sg_model.specs.Marks.{MarksList}
use Rattle.sg_model.proofs.draft.Draft.mark_list.Given as goal

abbrev pub invariant-loop-dart : goal.invariant-loop-dart
invariant-loop-dart l = record {
  list : l.dart-items ≡ darts_of l.self l.spin;
  in_place : (j : ℕ) → j < l.dart-index → is_misplaced (is_dart_of l.self l.spin) (darts_of l.self l.spin) j ≡ false;
  marks : MarksList (is_dart_of l.self l.spin) l.marked (take l.dart-index (darts_of l.self l.spin));
  others : (d : ℕ) → is_dart_of l.self l.spin d ≡ false → is_marked l.marked d ≡ is_marked l.initial.marked d;
}
