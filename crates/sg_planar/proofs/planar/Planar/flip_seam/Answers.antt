use Rattle.sg_planar.proofs.OtherCouplings.{flipped_redrawn}
use Rattle.sg_planar.proofs.planar.Planar.flip_seam.Goals as goal

pub drawn_with-requires : goal.drawn_with-requires
drawn_with-requires c = flipped_redrawn c.instance.ensures.planar c.instance.ensures.value c.in_ok-instance.ensures
