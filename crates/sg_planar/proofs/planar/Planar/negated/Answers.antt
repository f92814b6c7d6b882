use Rattle.sg_planar.proofs.OtherCouplings.{negated_redrawn}
use Rattle.sg_planar.proofs.planar.Planar.negated.Goals as goal

pub drawn_with-requires : goal.drawn_with-requires
drawn_with-requires c = negated_redrawn c.instance.ensures.planar c.instance.ensures.value c.in_ok-instance.ensures
