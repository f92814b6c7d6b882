use Rattle.std.proofs.Common.{◌≡◌, ℕ, ◌≤◌, true, false}
use Rattle.sg_model.specs.Rotation.{is_dart_of}
use Rattle.sg_base.specs.Sets.{is_marked}
use Rattle.sg_model.specs.Marks.{MarksSpins}
use Rattle.sg_model.proofs.draft.Draft.mark_lists.Given as goal

abbrev pub invariant-loop-spin : goal.invariant-loop-spin
invariant-loop-spin l = record {
  marks : MarksSpins l.self l.marked l.spin;
  fresh : (i d : ℕ) → l.spin ≤ i → is_dart_of l.self i d ≡ true → is_marked l.marked d ≡ false;
}
