use Rattle.std.proofs.Common.{arith}
use Rattle.std.proofs.lemmas.Grind.{elements}
use Rattle.std.proofs.lemmas.Option.{get_or_from_slice_get}
use Rattle.sg_planar.proofs.PartPlaces.{map_more}
use Rattle.sg_planar.proofs.components.placed_bonds.Goals as goal

pub bounds-places-bond : goal.bounds-places-bond
bounds-places-bond c = grind (arith, elements)

pub bounds-places-bond-in-loop-k : goal.bounds-places-bond-in-loop-k
bounds-places-bond-in-loop-k c = grind (arith, elements)

pub loop-k-preserved : goal.loop-k-preserved
loop-k-preserved c = grind (arith, get_or_from_slice_get, map_more)
