use Rattle.std.proofs.Common.{◌≤◌, ◌^◌, ◌∙◌, ap₂, sym, subst}
use Rattle.sg_faces.specs.Faces.{Labelling}
use Rattle.sg_dual.specs.Dual.{dual_web, frustrated_faces}
use Rattle.sg_ground.proofs.Solutions.{faces_fit}
use Rattle.sg_bonds.proofs.states.make_finder.Goals as goal

pub dual-requires-clause-few : goal.dual-requires-clause-few
dual-requires-clause-few c = subst (λ (f : Labelling). f.count ≤ 2 ^ 24) (sym c.faces.ensures.value)
    (faces_fit c.args.planar.now c.faces.ensures.planar (c.is_connected.ensures.0 c.if-not-is_connected.false))

pub returns : goal.returns
returns c = record {
  planar = c.instance.ensures.planar;
  connected = c.is_connected.ensures.0 c.if-not-is_connected.false;
  web = c.in_ok-web.ensures.web ∙ ap₂ dual_web c.instance.ensures.value c.faces.ensures.value;
  frustrated = c.in_ok-web.ensures.frustrated ∙ ap₂ frustrated_faces c.instance.ensures.value c.faces.ensures.value;
}
