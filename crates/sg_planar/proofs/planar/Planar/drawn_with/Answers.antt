use Rattle.sg_planar.proofs.OtherCouplings.{components_redrawn, planar_redrawn}
use Rattle.sg_planar.proofs.planar.Planar.drawn_with.Goals as goal

pub invariant_of-result : goal.invariant_of-result
invariant_of-result c =
    let p = c.args.self.now in
    let copy = c.in_ok-drawing.ensures in
    rw copy.faces (
      planar_redrawn p c.args.instance copy.planar c.requires.drawing c.requires.sum,
      components_redrawn p.instance c.args.instance copy.planar.instance c.requires.drawing _ _ copy.components,
    )

pub returns-clause-planar : goal.returns-clause-planar
returns-clause-planar c =
    rw c.in_ok-drawing.ensures.faces
    (planar_redrawn c.args.self.now c.args.instance c.in_ok-drawing.ensures.planar c.requires.drawing c.requires.sum)
