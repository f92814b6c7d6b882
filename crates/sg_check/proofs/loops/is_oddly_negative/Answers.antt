use Rattle.std.proofs.Common.{◌≡◌, ◌∙◌, ap, true, false, pos, sym, rules, w64, int_lt, FitsSigned, take_all}
use Rattle.std.proofs.lemmas.Int.{to_z-of_z}
use Rattle.sg_base.specs.Parity.{xor, parity_by}
use Rattle.sg_base.proofs.ParityLaws.{xor-false, xor_comm}
use Rattle.sg_model.specs.Ising.{bond_at}
use Rattle.sg_model.specs.Broken.{is_negative}
use Rattle.sg_check.proofs.OddSpins.{negative_more, odd_sign}
use Rattle.sg_check.proofs.loops.is_oddly_negative.Goals as goal
use Rattle.sg_check.proofs.loops.is_oddly_negative.Goals.{then-bond_of-lt0, else-bond_of-lt0}

pub loop-k-preserved : goal.loop-k-preserved
loop-k-preserved c = elim c.if-bond_of-lt0.branch [
  | then-bond_of-lt0 w ↦
      let fits : FitsSigned w64 c.bond_of.result.j = search rules in
      let sign : is_negative c.bond_of.result ≡ true = ap (λ z. int_lt z (pos 0)) (sym (to_z-of_z _ _ fits)) ∙ w.if-bond_of-lt0.true in
      w.odd-is ∙ xor_comm true c.loop-k.odd ∙ ap (xor c.loop-k.odd) (sym sign)
      ∙ negative_more c.args.inst.now c.args.list.now _ _ _ c.loop-k-test.true c.bond_of.ensures.value c.loop-k.invariant
  | else-bond_of-lt0 w ↦
      let fits : FitsSigned w64 c.bond_of.result.j = search rules in
      let sign : is_negative c.bond_of.result ≡ false = ap (λ z. int_lt z (pos 0)) (sym (to_z-of_z _ _ fits)) ∙ w.if-bond_of-lt0.false in
      w.odd-is ∙ sym (xor-false c.loop-k.odd) ∙ ap (xor c.loop-k.odd) (sym sign)
      ∙ negative_more c.args.inst.now c.args.list.now _ _ _ c.loop-k-test.true c.bond_of.ensures.value c.loop-k.invariant
]

pub returns : goal.returns
returns c = odd_sign c.args.inst.now c.args.list.now c.loop-k.odd (c.loop-k.invariant
    ∙ ap (parity_by (λ k. is_negative (bond_at c.args.inst.now k))) (take_all _ _ c.loop-k-test.false))
