use Rattle.sg_bonds.proofs.Common.{rules, ◌≡◌, true, false, get_or, sym, subst, refl, arith, elements, Bond, bond_at, Reached, has}
use Rattle.sg_bonds.proofs.CostNumbers.{read_bond}
use Rattle.sg_ground.proofs.WalkedSpins.{reached_by_walk}
use Rattle.sg_bonds.proofs.paths.leads_across.Goals as goal

pub returns : goal.returns
returns c = λ marked.
    let read : bond_at c.args.inst.now c.args.bond ≡ c.at-ends.result.now =
    read_bond c.args.inst.now c.args.inst.now c.bonds.result.now c.args.bond c.at-ends.result.now c.at-ends.ensures c.bonds.ensures.value refl in
    let seen : get_or c.walk.new.marks c.at-ends.result.now.v false ≡ true = search rules in
    subst (λ (b : Bond). Reached c.args.inst.now (has c.args.set.now) b.u b.v) (sym read)
    (reached_by_walk c.args.inst.now (has c.args.set.now) c.at-ends.result.now.u c.at-ends.result.now.v c.args.inst.now.n c.args.marks.now
    c.walk.new.marks c.walk.new.order.items
    c.requires.marks c.in_ok-walk.ensures seen)

pub bounds-marks-ends : goal.bounds-marks-ends
bounds-marks-ends c = grind (arith, elements)
