use Rattle.sg_bonds.proofs.Common.{◌∙◌, ℤ, subst, sym, IsInstance}
use Rattle.sg_bonds.specs.Cost.{IsLeastWith}
use Rattle.sg_bonds.proofs.CostNumbers.{above_found, cost_fits, cost_found, kept_unit}
use Rattle.sg_bonds.proofs.breaking.gap.Goals as goal

pub overflow_sub-result : goal.overflow_sub-result
overflow_sub-result c =
    let good : IsInstance c.args.study.now.planar.now.instance = subst IsInstance c.instance.ensures.value c.bonds-bonds.ensures.instance in
    cost_fits c.args.study.now.planar.now.instance good c.args.bond c.requires.study.sum c.args.study.now.least.now.spins c.args.other
    c.args.least c.args.study.now.least.now.energy c.requires.study.ground_state c.requires.up_or_down c.requires.other
    (subst (λ (p : ℤ). IsLeastWith c.args.study.now.planar.now.instance c.args.bond p c.args.least) (sym (kept_unit c.args.other c.requires.up_or_down))
    c.requires.least) c.requires.study.energy

pub returns-clause-cost : goal.returns-clause-cost
returns-clause-cost c =
    let good : IsInstance c.args.study.now.planar.now.instance = subst IsInstance c.instance.ensures.value c.bonds-bonds.ensures.instance in
    cost_found c.args.study.now.planar.now.instance good c.args.bond c.requires.study.sum c.args.study.now.least.now.spins c.args.other
    c.args.least c.args.study.now.least.now.energy c.requires.study.ground_state c.requires.up_or_down c.requires.other
    (subst (λ (p : ℤ). IsLeastWith c.args.study.now.planar.now.instance c.args.bond p c.args.least) (sym (kept_unit c.args.other c.requires.up_or_down))
    c.requires.least) c.requires.study.energy

pub returns-clause-above : goal.returns-clause-above
returns-clause-above c =
    let good : IsInstance c.args.study.now.planar.now.instance = subst IsInstance c.instance.ensures.value c.bonds-bonds.ensures.instance in
    sym c.requires.least.reached.3
    ∙ above_found c.args.study.now.planar.now.instance good c.args.bond c.requires.study.sum c.args.study.now.least.now.spins c.args.other
    c.args.least c.args.study.now.least.now.energy c.requires.study.ground_state c.requires.up_or_down c.requires.other
    (subst (λ (p : ℤ). IsLeastWith c.args.study.now.planar.now.instance c.args.bond p c.args.least) (sym (kept_unit c.args.other c.requires.up_or_down))
    c.requires.least) c.requires.study.energy c.requires.least.reached.0 (sym c.requires.least.reached.3)
