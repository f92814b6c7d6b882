use Rattle.std.proofs.Common.{◌≡◌, ◌⊎◌, ℕ, ◌<◌, ◌≤◌, true}
use Rattle.sg_model.specs.Rotation.{is_dart_of}
use Rattle.sg_base.specs.Sets.{is_marked}
use Rattle.sg_model.specs.Marks.{IsLeastUnmarked}
use Rattle.sg_model.proofs.draft.Draft.least_unmarked.Given as goal

abbrev pub invariant-loop-dart : goal.invariant-loop-dart
invariant-loop-dart l = record {
  seen : (i d : ℕ) → i < l.least.spin → d < l.dart → is_dart_of l.self i d ≡ true → is_marked l.marked d ≡ true;
  least : ((l.least.spin ≡ l.fn.first.spin) × (l.least.dart ≡ l.fn.first.dart)) ⊎ IsLeastUnmarked l.self l.marked l.fn.first.spin l.least.spin
      l.least.dart;
  within : l.least.spin ≤ l.fn.first.spin;
}
