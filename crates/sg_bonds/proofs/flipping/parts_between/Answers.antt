use Rattle.sg_planar.specs.Walk.{has}
use Rattle.sg_bonds.proofs.PartFlips.{names_below}
use Rattle.sg_bonds.proofs.flipping.parts_between.Goals as goal

pub with_gains-requires-clause-names : goal.with_gains-requires-clause-names
with_gains-requires-clause-names c = names_below c.args.inst.now (has c.deref.result.now) c.in_ok-names.names.items c.in_ok-names.ensures
