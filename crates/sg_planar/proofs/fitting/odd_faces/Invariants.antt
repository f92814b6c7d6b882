-- The marks count the sides of marked bonds so far.
use Rattle.std.proofs.Common.{◌≡◌, ℕ, ◌<◌, vec_len}
use Rattle.sg_base.specs.Parity.{parity_below}
use Rattle.sg_base.specs.Sets.{is_marked}
use Rattle.sg_planar.specs.Sides.{is_marked_side}
use Rattle.sg_planar.proofs.fitting.odd_faces.Given as goal

abbrev pub invariant-loop-dart : goal.invariant-loop-dart
invariant-loop-dart l = record {
  room : vec_len l.odd ≡ l.faces.count;
  marks : (f : ℕ) → f < l.faces.count → is_marked l.odd.items f ≡ parity_below (is_marked_side l.faces l.marks f) l.dart;
}
