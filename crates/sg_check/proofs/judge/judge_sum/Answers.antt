use Rattle.std.proofs.Common.{◌≡◌, ℕ, ◌≤◌, ◌*◌, ◌^◌, ◌∙◌, ap, sym, ℤ, pos, ◌+ℤ◌, arith, rules, w64, FitsSigned}
use Rattle.std.specs.Int.{w128, cast_signed, cast_unsigned}
use Rattle.std.proofs.lemmas.Int.{ints, to_z-of_z, to_z_pos}
use Rattle.sg_model.specs.Energy.{weight}
use Rattle.sg_model.proofs.BrokenParity.{weight-le}
use Rattle.sg_check.specs.Packing.{packed_weight}
use Rattle.sg_check.proofs.Verdicts.{proof_from_tests}
use Rattle.sg_check.proofs.judge.judge_sum.Goals as goal

-- the sum as it is computed
abbrev computed : ℤ → ℤ → ℤ
computed r v = cast_signed w128 (cast_unsigned w128 r) +ℤ cast_signed w128 (cast_unsigned w128 v)

computed_is : (e r v : ℤ) (w : ℕ) → FitsSigned w64 e → r ≡ cast_signed w64 (cast_unsigned w64 e) → v ≡ pos w → w ≤ 2 ^ 24 * 2 ^ 63 → computed r v ≡ e +ℤ pos w
computed_is e r v w fits p q bound = omega (arith, ints)

computed_fits : (e r v : ℤ) (w : ℕ) → FitsSigned w64 e → r ≡ cast_signed w64 (cast_unsigned w64 e) → v ≡ pos w → w ≤ 2 ^ 24 * 2 ^ 63
    → FitsSigned w128 (computed r v)
computed_fits e r v w fits p q bound = omega (arith, ints)

pub overflow_add-wanted : goal.overflow_add-wanted
overflow_add-wanted c =
    let fits : FitsSigned w64 c.args.text.now.energy = search rules in
    computed_fits _ _ _ _ fits c.from.ensures c.weight.ensures (weight-le _ c.requires.instance)

pub returns-then-found-wanted : goal.returns-then-found-wanted
returns-then-found-wanted c =
    let fits : FitsSigned w64 c.args.text.now.energy = search rules in
    let bound : weight c.args.inst.now ≤ 2 ^ 24 * 2 ^ 63 = weight-le _ c.requires.instance in
    let total : c.sum_of_weights-found.result ≡ packed_weight c.args.text.now.loops = c.sum_of_weights-found.ensures.value
    ∙ ap packed_weight c.as_slice.ensures in
    proof_from_tests _ _ c.requires.energy c.requires.loops c.requires.loads (ap pos (sym total)
    ∙ sym (to_z_pos w128 c.sum_of_weights-found.result (omega (arith, c.sum_of_weights-found.ensures.size)))
    ∙ ap (cast_signed w128) c.if-found-wanted.true ∙ to_z-of_z _ _ (computed_fits _ _ _ _ fits c.from.ensures c.weight.ensures bound)
    ∙ computed_is _ _ _ _ fits c.from.ensures c.weight.ensures bound)

pub returns-else-found-wanted : goal.returns-else-found-wanted
returns-else-found-wanted c =
    let fits : FitsSigned w64 c.args.text.now.energy = search rules in
    let bound : weight c.args.inst.now ≤ 2 ^ 24 * 2 ^ 63 = weight-le _ c.requires.instance in
    let total : c.sum_of_weights-found.result ≡ packed_weight c.args.text.now.loops = c.sum_of_weights-found.ensures.value
    ∙ ap packed_weight c.as_slice.ensures in
    let found : cast_signed w128 c.sum_of_weights-found.result ≡ pos c.sum_of_weights-found.result = to_z_pos w128 c.sum_of_weights-found.result
    (omega (arith, c.sum_of_weights-found.ensures.size)) in
    let wanted : cast_signed w128 (cast_unsigned w128 (computed c.from.result c.weight.result)) ≡ computed c.from.result c.weight.result = to_z-of_z _ _
    (computed_fits _ _ _ _ fits c.from.ensures c.weight.ensures bound) in (
      c.requires.energy,
      c.requires.loops,
      c.requires.loads,
      found ∙ ap pos total,
      wanted ∙ computed_is _ _ _ _ fits c.from.ensures c.weight.ensures bound,
      λ e. c.if-found-wanted.false (ap (cast_unsigned w128) (sym found ∙ e ∙ wanted)),
    )
