use Rattle.std.proofs.Common.{length, ap, arith}
use Rattle.sg_model.specs.declared.bond.Bond.{Bond}
use Rattle.sg_model.proofs.LeastSpins.{leasts_few, leasts_some}
use Rattle.sg_planar.proofs.fitness.euler_number.Goals as goal

pub overflow_sub-separations : goal.overflow_sub-separations
overflow_sub-separations c = omega (arith, leasts_some c.args.inst.now c.args.leasts.now c.requires.leasts c.n.ensures.instance.draft.has_spin)

pub difference-requires-clause-right : goal.difference-requires-clause-right
difference-requires-clause-right c =
    omega (arith, leasts_few c.args.inst.now c.args.leasts.now c.requires.leasts, ap (length {A = Bond}) c.bonds.ensures.value)

pub returns : goal.returns
returns c = grind arith
