use Rattle.std.proofs.Common.{◌≡◌, ◌<◌, ◌/◌, true, false, [], length, get_or, sym, ◌∙◌, ap, arith, not, ◌&&◌, take_all}
use Rattle.std.proofs.lemmas.Option.{get_or_from_slice_get}
use Rattle.sg_model.specs.Rotation.{dart_count, darts_of, head_of, tail}
use Rattle.sg_model.proofs.Rotations.{in_list}
use Rattle.sg_model.proofs.Paths.{joined_along}
use Rattle.sg_planar.specs.Walk.{has}
use Rattle.sg_planar.proofs.Searches.{visits_same, visits_new, seen_or_new, leads_parts}
use Rattle.sg_planar.proofs.breadth_first.visit.Goals as goal
use Rattle.sg_planar.proofs.breadth_first.visit.Goals.{then-leads_on+in_ok-push, else-leads_on}

pub head-to-requires : goal.head-to-requires
head-to-requires c =
    let list : c.at-dart-items.result.now ≡ darts_of c.args.inst.now c.args.spin =
    sym (get_or_from_slice_get c.rotation.result.now c.args.spin _ [] c.at-dart-items.ensures) ∙ ap (λ r. get_or r c.args.spin []) c.rotation.ensures.value in
    rw list (in_list _ c.rotation.ensures.instance _ c.loop-dart.dart-index c.requires.spin_in (omega (arith, c.loop-dart-test.true, ap length list))).0

pub leads_on-requires-clause-dart_in : goal.leads_on-requires-clause-dart_in
leads_on-requires-clause-dart_in c =
    let list : c.at-dart-items.result.now ≡ darts_of c.args.inst.now c.args.spin =
    sym (get_or_from_slice_get c.rotation.result.now c.args.spin _ [] c.at-dart-items.ensures) ∙ ap (λ r. get_or r c.args.spin []) c.rotation.ensures.value in
    let below : get_or (darts_of c.args.inst.now c.args.spin) c.loop-dart.dart-index 0 < dart_count c.args.inst.now =
    (in_list _ c.rotation.ensures.instance _ c.loop-dart.dart-index c.requires.spin_in (omega (arith, c.loop-dart-test.true, ap length list))).0 in
    rw list (omega (arith, below, c.requires.set_length))

pub loop-dart-preserved : goal.loop-dart-preserved
loop-dart-preserved c =
    let list : c.at-dart-items.result.now ≡ darts_of c.args.inst.now c.args.spin =
    sym (get_or_from_slice_get c.rotation.result.now c.args.spin _ [] c.at-dart-items.ensures) ∙ ap (λ r. get_or r c.args.spin []) c.rotation.ensures.value in
    let here : c.loop-dart.dart-index < length (darts_of c.args.inst.now c.args.spin) = omega (arith, c.loop-dart-test.true, ap length list) in
    let dart : (get_or (darts_of c.args.inst.now c.args.spin) c.loop-dart.dart-index 0 < dart_count c.args.inst.now) ×
    (tail c.args.inst.now (get_or (darts_of c.args.inst.now c.args.spin) c.loop-dart.dart-index 0) ≡ c.args.spin) =
    in_list _ c.rotation.ensures.instance _ _ c.requires.spin_in here in
    let leads : c.head-to.result ≡ head_of c.args.inst.now (get_or (darts_of c.args.inst.now c.args.spin) c.loop-dart.dart-index 0) =
    c.head-to.ensures.value ∙ ap (λ xs. head_of c.args.inst.now (get_or xs c.loop-dart.dart-index 0)) list in
    let inside : c.head-to.result < length c.loop-dart.marks = omega (arith, c.head-to.ensures.below, c.requires.lengths, c.loop-dart.auto.marks) in
    let test : c.leads_on.result ≡
    (has c.args.set.now (get_or (darts_of c.args.inst.now c.args.spin) c.loop-dart.dart-index 0 / 2) && not (get_or c.loop-dart.marks c.head-to.result false)) =
    c.leads_on.ensures ∙ ap (λ xs. has c.args.set.now (get_or xs c.loop-dart.dart-index 0 / 2) && not (get_or c.loop-dart.marks c.head-to.result false)) list in
    elim c.if-leads_on.branch [
      | then-leads_on+in_ok-push w ↦
          let parts : (has c.args.set.now (get_or (darts_of c.args.inst.now c.args.spin) c.loop-dart.dart-index 0 / 2) ≡ true) ×
          (get_or c.loop-dart.marks c.head-to.result false ≡ false) = leads_parts _ _ (sym test ∙ w.if-leads_on.true) in
          rw (w.marks-is, w.order-is, w.in_ok-push.ensures.items) (visits_new _ _ _ _ _ _ _ _ _ here c.loop-dart.invariant
          _ leads inside parts.1 (joined_along _ _ _ _ _ dart.0 parts.0 dart.1 leads))
      | else-leads_on w ↦ rw (w.marks-is, w.order-is) (visits_same _ _ _ _ _ _ _ _ _ here c.loop-dart.invariant
          (λ e. ap (λ x. get_or c.loop-dart.marks x false) (sym leads) ∙ seen_or_new _ _ (sym test ∙ w.if-leads_on.false) e))
    ]

pub returns : goal.returns
returns c =
    let list : c.at-dart-items.result.now ≡ darts_of c.args.inst.now c.args.spin =
    sym (get_or_from_slice_get c.rotation.result.now c.args.spin _ [] c.at-dart-items.ensures) ∙ ap (λ r. get_or r c.args.spin []) c.rotation.ensures.value in
    rw (take_all c.loop-dart.dart-index (darts_of c.args.inst.now c.args.spin) (omega (arith, c.loop-dart-test.false, ap length list))) at c.loop-dart.invariant
