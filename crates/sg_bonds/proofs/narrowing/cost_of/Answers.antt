use Rattle.sg_bonds.proofs.Common.{rules, ◌<◌, pos, sym, subst, ap, ◌∙◌, length, get_or, arith, w64, to_z-of_z, common_steps, get_or_default}
use Rattle.sg_bonds.specs.Bounds.{IsMet, unbounded}
use Rattle.sg_bonds.specs.Cost.{IsCost}
use Rattle.sg_bonds.specs.declared.bounds.Bound.{Bound}
use Rattle.sg_bonds.proofs.NarrowedBounds.{just}
use Rattle.sg_bonds.proofs.PathBounds.{met_cost}
use Rattle.sg_bonds.proofs.narrowing.cost_of.Goals as goal

pub returns-then-branch-clause-cost : goal.returns-then-branch-clause-cost
returns-then-branch-clause-cost c = λ are.
    let inst = c.args.study.now.planar.now.instance in
    let bounds = c.args.bounds.now in
    let k = c.args.bond in
    let here : k < length bounds = omega (arith, c.requires.bond_in, c.requires.count) in
    let met : IsMet inst bounds k = subst (λ i. IsMet i bounds k) c.instance.ensures.value (c.in_ok-is_met.ensures c.if-branch.true) in
    let fits = to_z-of_z {w = w64} {z = (get_or bounds k (just (pos 0))).high} (search rules) in
    subst (IsCost inst k) (sym (fits ∙ ap (λ (b : Bound). b.high) (get_or_default bounds k (just (pos 0)) unbounded here)))
    (met_cost inst c.instance.ensures.planar.instance c.args.study.now.least.now.spins c.requires.study.ground_state c.requires.study.sum bounds are k
    c.requires.bond_in met)

pub note-requires-clause-ground_state : goal.note-requires-clause-ground_state
note-requires-clause-ground_state c = grind (arith, common_steps)

pub returns-then-branch-clause-narrows : goal.returns-then-branch-clause-narrows
returns-then-branch-clause-narrows c = grind (arith, common_steps)

pub returns-clause-narrows : goal.returns-clause-narrows
returns-clause-narrows c = grind (arith, common_steps)
