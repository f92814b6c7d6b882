use Rattle.std.proofs.Common.{ap, arith}
use Rattle.std.proofs.lemmas.Result.{IfOk-weaker}
use Rattle.sg_model.specs.Energy.{weight}
use Rattle.sg_graph.specs.Web.{total_weight}
use Rattle.sg_dual.proofs.DualWebs.{dual_weight}
use Rattle.sg_ground.proofs.Solutions.{faces_fit}
use Rattle.sg_ground.proofs.joins.dual_of.Goals as goal

pub dual-requires-clause-few : goal.dual-requires-clause-few
dual-requires-clause-few c = rw c.faces.ensures.value (faces_fit c.args.planar.now c.faces.ensures.planar c.requires.connected)

pub returns-clause-web : goal.returns-clause-web
returns-clause-web c = rw (c.instance.ensures.value, c.faces.ensures.value) at c.dual.ensures.web

pub returns-clause-frustrated : goal.returns-clause-frustrated
returns-clause-frustrated c = rw (c.instance.ensures.value, c.faces.ensures.value) at c.dual.ensures.frustrated

pub returns-clause-connected : goal.returns-clause-connected
returns-clause-connected c =
    IfOk-weaker c.dual.result _ _ (λ d joined. joined (rw c.instance.ensures.value c.requires.connected)) c.dual.ensures.connected

pub returns-clause-light : goal.returns-clause-light
returns-clause-light c =
    IfOk-weaker c.dual.result _ _
    (λ d same. omega (
      arith,
      ap total_weight same,
      dual_weight c.instance.result.now c.faces.result.now,
      ap weight c.instance.ensures.value,
      c.instance.ensures.planar.sum,
    )) c.dual.ensures.web
