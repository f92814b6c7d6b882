use Rattle.std.proofs.Common.{arith, rules}
use Rattle.std.proofs.lemmas.Grind.{common_steps}
use Rattle.std.proofs.lemmas.Result.{IfOk-weaker}
use Rattle.sg_ground.proofs.NestProofs.{ground_by_broken}
use Rattle.sg_ground.proofs.nested.proves_broken.Goals as goal

pub returns-clause-least : goal.returns-clause-least
returns-clause-least c =
    IfOk-weaker c.proves.result _ _
    (λ yes least so.
    ground_by_broken c.args.planar.now c.whole_dual.ensures.planar c.args.spins.now c.requires.assignment c.in_ok-web.web c.in_ok-web.frustrated
    c.in_ok-broken.broken c.in_ok-web.ensures.web c.in_ok-web.ensures.frustrated (rw c.instance.ensures.value at c.in_ok-broken.ensures) (least so))
    c.proves.ensures.least

pub broken_bonds-requires : goal.broken_bonds-requires
broken_bonds-requires c = grind (arith, common_steps)

pub returns-clause-proves : goal.returns-clause-proves
returns-clause-proves c = search rules
