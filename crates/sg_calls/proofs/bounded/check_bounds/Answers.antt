use Rattle.std.proofs.Common.{◌∙◌, sym}
use Rattle.sg_calls.proofs.BoundLemmas.{asked_below}
use Rattle.sg_calls.proofs.bounded.check_bounds.Goals as goal

pub returns-clause-asked : goal.returns-clause-asked
returns-clause-asked c =
    asked_below c.args.count c.args.asked.now (sym c.wrong_asked.ensures ∙ c.in_ok-check_place.ensures.passes)
