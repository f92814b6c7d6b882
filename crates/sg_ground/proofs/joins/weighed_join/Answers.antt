use Rattle.std.proofs.lemmas.Result.{IfOk-weaker}
use Rattle.sg_ground.proofs.joins.weighed_join.Goals as goal

pub returns-clause-proves : goal.returns-clause-proves
returns-clause-proves c =
    IfOk-weaker c.least_weight_counted.result _ _ (λ j proves. rw (c.in_ok-web.ensures.web, c.in_ok-web.ensures.frustrated) at proves)
    c.least_weight_counted.ensures.proves
