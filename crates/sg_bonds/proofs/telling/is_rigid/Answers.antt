use Rattle.sg_bonds.proofs.Common.{◌<◌, ◌∙◌, pos, length, sym, subst, arith, ints, get_or_default}
use Rattle.sg_bonds.specs.Cost.{IsCost}
use Rattle.sg_bonds.specs.declared.telling.Told.TheVariants.{Rigid, Unknown}
use Rattle.sg_bonds.specs.Told.{IsTold}
use Rattle.sg_bonds.proofs.ToldBonds.{not_rigid}
use Rattle.sg_bonds.proofs.telling.is_rigid.Goals as goal

pub returns-in-Free-clause-rigid : goal.returns-in-Free-clause-rigid
returns-in-Free-clause-rigid c =
    let here : c.args.bond < length c.args.told.now = omega (arith, c.requires.bond_in, c.requires.told.count) in
    let free : IsCost c.args.study.now.planar.now.instance c.args.bond (pos 0) =
    subst (IsTold c.args.study.now.planar.now.instance c.args.bond) (sym (get_or_default c.args.told.now c.args.bond Rigid Unknown here) ∙ c.in-Free.is)
    (c.requires.told.each c.args.bond c.requires.bond_in) in
    (λ e. cc, λ r. absurd (not_rigid c.args.study.now.planar.now.instance c.args.bond (pos 0) free (omega (arith, ints)) r))
