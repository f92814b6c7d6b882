use Rattle.std.proofs.Common.{arith}
use Rattle.sg_planar.specs.Fit.{Embedding}
use Rattle.sg_planar.proofs.EulerBounds.{faces_within}
use Rattle.sg_ground.proofs.nested.whole_dual.Goals as goal

pub dual-requires-clause-few : goal.dual-requires-clause-few
dual-requires-clause-few c =
    let p : Embedding = c.args.planar.now in
    let planar = c.faces.ensures.planar in
    rw c.faces.ensures.value (omega (arith, faces_within p.instance planar.instance p.faces planar.faces planar.genus_zero, c.requires))
