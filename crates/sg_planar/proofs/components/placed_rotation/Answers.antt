use Rattle.std.proofs.Common.{arith}
use Rattle.std.proofs.lemmas.Option.{get_or_from_slice_get}
use Rattle.sg_planar.proofs.PartPlaces.{listed_below, map_more}
use Rattle.sg_planar.proofs.components.placed_rotation.Goals as goal

pub placed_list-requires-clause-below : goal.placed_list-requires-clause-below
placed_list-requires-clause-below c = grind (arith, get_or_from_slice_get, listed_below)

pub loop-spin-preserved : goal.loop-spin-preserved
loop-spin-preserved c = grind (arith, get_or_from_slice_get, map_more)
