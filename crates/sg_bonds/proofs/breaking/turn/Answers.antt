use Rattle.sg_bonds.proofs.Common.{◌≡◌, ap, neg_ℤ, sym, ◌∙◌, arith, elements, common_steps, bond_at, product}
use Rattle.sg_bonds.proofs.CostNumbers.{kept_unit, read_bond}
use Rattle.sg_bonds.proofs.breaking.turn.Goals as goal

pub gap-cost-requires-clause-other : goal.gap-cost-requires-clause-other
gap-cost-requires-clause-other c =
    let read : bond_at c.args.study.now.planar.now.instance c.args.bond ≡ c.at-ends.result.now =
    read_bond c.args.study.now.planar.now.instance c.instance.result.now
    c.bonds.result.now c.args.bond c.at-ends.result.now c.at-ends.ensures c.bonds.ensures.value c.instance.ensures.value in
    ap (product c.args.study.now.least.now.spins) read ∙ c.other_product-other.ensures.other
    ∙ ap neg_ℤ (sym (kept_unit c.other_product-other.result c.other_product-other.ensures.up_or_down))

pub other_product-other-requires : goal.other_product-other-requires
other_product-other-requires c = grind (arith, elements)

pub turned_by-requires-clause-breaks : goal.turned_by-requires-clause-breaks
turned_by-requires-clause-breaks c = grind (arith, common_steps)
