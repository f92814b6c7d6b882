use Rattle.std.proofs.Common.{pos, ◌≡◌, ◌/◌, List, get_or, sym, ◌∙◌, ap, arith}
use Rattle.std.proofs.lemmas.Option.{get_or_from_slice_get}
use Rattle.sg_model.specs.declared.bond.Bond.{Bond}
use Rattle.sg_model.specs.Ising.{bond_at}
use Rattle.sg_model.specs.Rotation.{head_of}
use Rattle.sg_model.proofs.Darts.{head_even, head_odd}
use Rattle.sg_model.proofs.Rotations.{head_below}
use Rattle.sg_planar.proofs.breadth_first.head.Goals as goal

pub returns-then-dart-eq0 : goal.returns-then-dart-eq0
returns-then-dart-eq0 c =
    let read : bond_at c.args.inst.now (c.args.dart / 2) ≡ c.at-bond.result.now =
    ap (λ (bonds : List Bond). get_or bonds (c.args.dart / 2) (record { u = 0; v = 0; j = pos 0 })) (sym c.bonds.ensures.value)
    ∙ get_or_from_slice_get c.bonds.result.now (c.args.dart / 2) _ (record { u = 0; v = 0; j = pos 0 }) c.at-bond.ensures in
    let value : c.at-bond.result.now.v ≡ head_of c.args.inst.now c.args.dart = ap (λ (b : Bond). b.v) (sym read) ∙ sym (head_even _ _ c.if-dart-eq0.true) in
    record { value = value; below = omega (arith, value, head_below _ c.bonds.ensures.instance _ c.requires) }

pub returns-else-dart-eq0 : goal.returns-else-dart-eq0
returns-else-dart-eq0 c =
    let read : bond_at c.args.inst.now (c.args.dart / 2) ≡ c.at-bond.result.now =
    ap (λ (bonds : List Bond). get_or bonds (c.args.dart / 2) (record { u = 0; v = 0; j = pos 0 })) (sym c.bonds.ensures.value)
    ∙ get_or_from_slice_get c.bonds.result.now (c.args.dart / 2) _ (record { u = 0; v = 0; j = pos 0 }) c.at-bond.ensures in
    let value : c.at-bond.result.now.u ≡ head_of c.args.inst.now c.args.dart = ap (λ (b : Bond). b.u) (sym read) ∙ sym (head_odd _ _ c.if-dart-eq0.false) in
    record { value = value; below = omega (arith, value, head_below _ c.bonds.ensures.instance _ c.requires) }
