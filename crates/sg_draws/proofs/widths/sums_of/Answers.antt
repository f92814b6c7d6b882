use Rattle.std.proofs.Common.{◌∙◌}
use Rattle.sg_ensemble.proofs.WidthAfterWidth.{same_stream}
use Rattle.sg_draws.proofs.widths.sums_of.Goals as goal

pub returns-in_ok-width_on-in-Ok-clause-width : goal.returns-in_ok-width_on-in-Ok-clause-width
returns-in_ok-width_on-in-Ok-clause-width g c =
    let old = (goal.Disorder-dyn g (c.args.law.now.vtable, c.args.law.now.value)).seeded c.args.law.now.value c.args.seed in
    let mid = (goal.Disorder-dyn g (c.start.new.law.vtable, c.start.new.law.value)).next c.start.new.law.value in
    same_stream c.args.size.rows c.args.size.cols c.args.count mid old c.in_ok-width_on-in-Ok.field-0
    (λ n. c.start.ensures.stream n ∙ c.in-Ok.ensures.seeds c.args.seed n) c.in_ok-width_on-in-Ok.ensures.width

pub returns-in_ok-width_on-in-Ok-clause-seeds : goal.returns-in_ok-width_on-in-Ok-clause-seeds
returns-in_ok-width_on-in-Ok-clause-seeds g c = λ s n. c.in_ok-width_on-in-Ok.ensures.seeds s n ∙ c.start.ensures.seeds s n ∙ c.in-Ok.ensures.seeds s n
