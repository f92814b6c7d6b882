use Rattle.std.proofs.Common.{rules, pos, get_or, w64}
use Rattle.std.proofs.lemmas.Int.{to_z-of_z}
use Rattle.sg_ground.proofs.PlacedValues.{written_more}
use Rattle.sg_bonds.proofs.components.place_costs.Goals as goal

pub loop-i-preserved : goal.loop-i-preserved
loop-i-preserved c =
    written_more c.args.places.now c.args.part.now c.args.costs.now c.loop-i.costs c.loop-i.i _
    c.requires.rising c.requires.below c.requires.count c.loop-i-test.true
    (to_z-of_z w64 (get_or c.args.part.now c.loop-i.i (pos 0)) (search rules)) c.loop-i.invariant
