use Rattle.std.proofs.Common.{arith, ap, ap₂, get_or, length, pos, rules, sym, w64, [], ◌++◌, ◌<◌, ◌∙◌, ◌∷◌}
use Rattle.std.specs.Int.{w128}
use Rattle.std.proofs.lemmas.Grind.{common_steps}
use Rattle.std.proofs.lemmas.Int.{to_z-of_z}
use Rattle.std.proofs.lemmas.List.{map_more}
use Rattle.sg_ensemble.specs.declared.by_width.Width.{Width}
use Rattle.sg_draws.proofs.widths.columns_of.Goals as goal

pub loop-width-preserved : goal.loop-width-preserved
loop-width-preserved c =
    let all = c.args.widths.now in
    let i = c.loop-width.width-index in
    let blank : Width = record { cols = 0; sum = pos 0; squares = pos 0 } in
    let low : i < length all = omega arith in
    let width : Width = get_or all i blank in
    record {
      cols = c.in_ok-push.ensures.items ∙ ap (λ xs. xs ++ width.cols ∷ []) c.loop-width.invariant.cols
          ∙ sym (map_more (λ (w : Width). w.cols) all i blank low);
      sums = c.in_ok-push-2.ensures.items
          ∙ ap₂ (λ xs x. xs ++ x ∷ []) c.loop-width.invariant.sums (to_z-of_z w64 width.sum (search rules))
          ∙ sym (map_more (λ (w : Width). w.sum) all i blank low);
      squares = c.in_ok-push-3.ensures.items
          ∙ ap₂ (λ xs x. xs ++ x ∷ []) c.loop-width.invariant.squares (to_z-of_z w128 width.squares (search rules))
          ∙ sym (map_more (λ (w : Width). w.squares) all i blank low);
    }

pub returns-clause-cols : goal.returns-clause-cols
returns-clause-cols c = grind (arith, common_steps)

pub returns-clause-sums : goal.returns-clause-sums
returns-clause-sums c = grind (arith, common_steps)

pub returns-clause-squares : goal.returns-clause-squares
returns-clause-squares c = grind (arith, common_steps)
