use Rattle.std.proofs.Common.{◌∙◌, sym, ap}
use Rattle.sg_postman.proofs.Trails.{end_last}
use Rattle.sg_postman.specs.declared.steps.Step.{Step}
use Rattle.sg_postman.proofs.hierholzer.standing.Goals as goal

pub returns-in-Some : goal.returns-in-Some
returns-in-Some c =
    let item = c.in-Some.ensures.item in
    ap (λ (s : Step). s.to) item.1 ∙ sym (end_last 0 c.args.steps.now c.in-Some.step.now item.3.0)
