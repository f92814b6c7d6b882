-- The marks count the negative darts so far.
use Rattle.std.proofs.Common.{◌≡◌, ℕ, ◌<◌, vec_len}
use Rattle.sg_base.specs.Parity.{parity_below}
use Rattle.sg_base.specs.Sets.{is_marked}
use Rattle.sg_dual.proofs.Frustration.{is_negative_side}
use Rattle.sg_dual.proofs.duality.frustration.Given as goal

abbrev pub invariant-loop-dart : goal.invariant-loop-dart
invariant-loop-dart l = record {
  room : vec_len l.marks ≡ l.faces.count;
  marks : (f : ℕ) → f < l.faces.count → is_marked l.marks.items f ≡ parity_below (is_negative_side l.inst l.faces f) l.dart;
}
