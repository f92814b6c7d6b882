use Rattle.sg_bonds.proofs.Common.{◌≡◌, ◌≤◌, ◌∙◌, ℤ, List, length, ap, ap₂, subst, sym, length-map, forced_limit, Ising, bond_at, bond_count, weight, Embedding}
use Rattle.std.proofs.lemmas.List.FromFn.{length-map-range_with_len}
use Rattle.sg_model.specs.Changes.{opposite, with_couplings}
use Rattle.sg_bonds.specs.Weakened.{amount_at, weakened_coupling, weakened_couplings}
use Rattle.sg_bonds.proofs.Weakening.{couplings_of_negated, weaker_fits}
use Rattle.sg_bonds.proofs.weaken.weaker_copy.Goals as goal

pub with_couplings-requires-clause-count : goal.with_couplings-requires-clause-count
with_couplings-requires-clause-count c =
    let inst : Ising = c.args.study.now.planar.now.instance in
    ap length c.in_ok-couplings.ensures
    ∙ length-map-range_with_len
    (λ k. weakened_coupling c.args.scale c.args.study.now.least.now.spins (bond_at inst k) (amount_at c.args.amounts.now k)) 0 (bond_count inst)
    ∙ sym (ap (λ (p : Embedding). bond_count p.instance) c.in_ok-copy.ensures.copy ∙ length-map inst.bonds opposite)

pub with_couplings-requires-clause-sum : goal.with_couplings-requires-clause-sum
with_couplings-requires-clause-sum c =
    let inst : Ising = c.args.study.now.planar.now.instance in
    let list : List ℤ = weakened_couplings inst c.args.scale c.args.study.now.least.now.spins (amount_at c.args.amounts.now) (bond_count inst) in
    let same : with_couplings c.in_ok-copy.copy.instance c.in_ok-couplings.couplings ≡ with_couplings inst list =
    ap₂ (λ (p : Embedding) (cs : List ℤ). with_couplings p.instance cs) c.in_ok-copy.ensures.copy c.in_ok-couplings.ensures
    ∙ couplings_of_negated inst list in
    subst (λ (i : Ising). weight i ≤ forced_limit) (sym same)
    (weaker_fits inst c.args.scale (amount_at c.args.amounts.now) c.requires.fits c.instance-instance.ensures.planar.instance c.args.study.now.least.now.spins
    c.requires.study.ground_state.assignment)

pub returns : goal.returns
returns c =
    let inst : Ising = c.args.study.now.planar.now.instance in
    let list : List ℤ = weakened_couplings inst c.args.scale c.args.study.now.least.now.spins (amount_at c.args.amounts.now) (bond_count inst) in
    ap (λ (p : Embedding). p.instance) c.with_couplings.ensures.value
    ∙ ap₂ (λ (p : Embedding) (cs : List ℤ). with_couplings p.instance cs) c.in_ok-copy.ensures.copy c.in_ok-couplings.ensures
    ∙ couplings_of_negated inst list
