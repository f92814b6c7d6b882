use Rattle.std.proofs.Common.{◌≡◌, ap, arith, length, ◌∙◌, sym}
use Rattle.std.proofs.lemmas.Grind.{elements}
use Rattle.sg_model.specs.declared.bond.Bond.{Bond}
use Rattle.sg_model.specs.Rotation.{dart_count}
use Rattle.sg_base.specs.Parity.{parity_below}
use Rattle.sg_dual.proofs.Frustration.{is_negative_side, frustrated_parity}
use Rattle.sg_dual.proofs.duality.frustration.Goals as goal

pub returns-clause-marks : goal.returns-clause-marks
returns-clause-marks c = λ f l.
    let ended : c.loop-dart.dart ≡ dart_count c.args.inst.now =
    omega (arith, c.loop-dart.auto.dart-end, c.loop-dart-test.false, ap (length {A = Bond}) (c.as_slice-bonds.ensures ∙ c.bonds.ensures.value)) in
    c.loop-dart.invariant.marks f l ∙ ap (parity_below (is_negative_side c.args.inst.now c.args.faces.now f)) ended
    ∙ sym (frustrated_parity c.args.inst.now c.args.faces.now f)

pub loop-dart-preserved : goal.loop-dart-preserved
loop-dart-preserved c = grind (arith, elements)
