use Rattle.sg_bonds.proofs.Common.{◌∙◌, ℕ, List, subst, arith, common_steps, with_items_is}
use Rattle.sg_bonds.specs.Flipped.{AreGains}
use Rattle.sg_bonds.proofs.flipping.with_gains.Goals as goal

pub returns-clause-gains : goal.returns-clause-gains
returns-clause-gains c =
    rw (with_items_is c.in_ok-gains.gains c.add_gains.new.gains (c.add_gains.auto.gains ∙ c.deref_mut.ensures.len))
    (subst (λ (names : List ℕ). AreGains c.args.inst.now c.args.least.now names c.add_gains.new.gains) c.deref.ensures.value c.add_gains.ensures.gains)

pub returns-clause-parts : goal.returns-clause-parts
returns-clause-parts c = grind (arith, common_steps)
