use Rattle.std.proofs.Common.{ℕ, Bool, List, [], ◌∷◌, ◌++◌, eqb, eq-eqb, get_or, sym, ◌∙◌, ap, ne_eqb}
use Rattle.sg_base.proofs.Choosing.{chosen_below_yes, chosen_below_no}
use Rattle.sg_planar.proofs.naming.own_names.Goals.{then-names-spin+in_ok-push, else-names-spin}
use Rattle.sg_planar.proofs.naming.own_names.Goals as goal

pub loop-spin-preserved : goal.loop-spin-preserved
loop-spin-preserved c =
    let own : ℕ → Bool = λ i. eqb (get_or c.args.names.now i 0) i in
    let spin : ℕ = c.loop-spin.spin in
    elim c.if-names-spin.branch [
      | then-names-spin+in_ok-push w ↦ rw w.list-is (w.in_ok-push.ensures.items ∙ ap (λ (xs : List ℕ). xs ++ spin ∷ []) c.loop-spin.invariant
          ∙ sym (chosen_below_yes own spin (eq-eqb _ _ w.if-names-spin.true)))
      | else-names-spin w ↦ rw w.list-is (c.loop-spin.invariant ∙ sym (chosen_below_no own spin (ne_eqb _ _ w.if-names-spin.false)))
    ]
