use Rattle.std.proofs.Common.{inl, inr, ◌≡◌, ◌∙◌, ap, arith, subst, sym}
use Rattle.std.proofs.lemmas.Bool.{cases_eq}
use Rattle.std.proofs.lemmas.List.{get_or_default}
use Rattle.sg_graph.specs.declared.cut.Cut.{Cut}
use Rattle.sg_join_check.specs.Shape.{cut_at}
use Rattle.sg_join_check.specs.Side.{IsCutOut}
use Rattle.sg_join_check.proofs.cuts.all_grown.Goals as goal

pub loop-i-preserved : goal.loop-i-preserved
loop-i-preserved c = record {
  side = c.turn_all.ensures;
  each = λ k low. elim (cases_eq k c.loop-i.i) [
    | inl same ↦
        let is : c.as_slice.result.now ≡ (cut_at c.args.cuts.now k).edges = c.as_slice.ensures
        ∙ ap (λ (x : Cut). x.edges) (get_or_default c.args.cuts.now c.loop-i.i c.index-cuts-i.result _ (omega (arith, c.loop-i-test.true))
        ∙ ap (cut_at c.args.cuts.now) (sym same)) in
        subst (IsCutOut c.args.web.now c.args.terminal_marks.now) is (c.is_cut_out.ensures c.if-not-is_cut_out.false)
    | inr differs ↦ c.loop-i.invariant.each k (omega arith)
  ];
}

pub returns : goal.returns
returns c = λ on k d low.
    subst (λ (x : Cut). IsCutOut c.args.web.now c.args.terminal_marks.now x.edges) (get_or_default c.args.cuts.now k _ d low)
    (c.loop-i.invariant.each k (omega (arith, c.loop-i-test.false)))
