use Rattle.std.proofs.Common.{arith}
use Rattle.std.proofs.lemmas.Int.{to_z-of_z}
use Rattle.sg_planar.proofs.OtherCouplings.{coupled_redrawn}
use Rattle.sg_planar.proofs.planar.Planar.with_coupling.Goals as goal

pub drawn_with-requires : goal.drawn_with-requires
drawn_with-requires c = grind (arith, coupled_redrawn, to_z-of_z)
