use Rattle.sg_bonds.proofs.Common.{◌≡◌, ap, subst, arith, common_steps, rows, Bond, bond_at, IsInstance, Embedding}
use Rattle.sg_bonds.proofs.CostNumbers.{IsForcedSolve, coupling_fits, energy_found, gap_fits, least_found, product_found, read_bond}
use Rattle.sg_bonds.proofs.forcing.least_with.Goals as goal

pub signed-requires-2-clause-size : goal.signed-requires-2-clause-size
signed-requires-2-clause-size c =
    let good : IsInstance c.args.study.now.planar.now.instance = subst IsInstance c.instance.ensures.value c.bonds.ensures.instance in
    let read : bond_at c.args.study.now.planar.now.instance c.args.bond ≡ c.at.result.now =
    read_bond c.args.study.now.planar.now.instance c.instance.result.now
    c.bonds.result.now c.args.bond c.at.result.now c.at.ensures c.bonds.ensures.value c.instance.ensures.value in
    coupling_fits c.args.study.now.planar.now.instance good c.args.bond c.requires.bond_in c.requires.study.sum c.at.result.now.j (ap (λ (b : Bond). b.j) read)

good : (c : goal.After-drop-forced-2) → IsInstance c.args.study.now.planar.now.instance
good c = subst IsInstance c.instance.ensures.value c.bonds.ensures.instance

solved : (c : goal.After-drop-forced-2) → IsForcedSolve c.args.study.now.planar.now.instance c.args.bond c.args.wanted c.force-force.result
    c.signed.result
    c.in_ok-least.least.energy c.signed-2.result c.at.result.now.j c.in_ok-forced.forced.instance c.in_ok-least.least.spins
solved c = record {
  force = c.force-force.ensures;
  new = c.signed.ensures;
  copy = ap (λ (e : Embedding). e.instance) c.in_ok-forced.ensures.copy;
  ground = c.in_ok-least.ensures.ground_state;
  value = c.in_ok-least.ensures.energy;
  size = c.in_ok-least.ensures.size;
  coupling = ap (λ (b : Bond). b.j)
      (read_bond c.args.study.now.planar.now.instance c.instance.result.now c.bonds.result.now c.args.bond c.at.result.now
      c.at.ensures c.bonds.ensures.value c.instance.ensures.value);
  own = c.signed-2.ensures;
}

pub overflow_sub-energy : goal.overflow_sub-energy
overflow_sub-energy c =
    let read = read_bond c.args.study.now.planar.now.instance c.instance.result.now c.bonds.result.now c.args.bond c.at.result.now
    c.at.ensures c.bonds.ensures.value c.instance.ensures.value in
    gap_fits c.args.study.now.planar.now.instance (subst IsInstance c.instance.ensures.value c.bonds.ensures.instance) c.args.bond
    c.requires.bond_in c.requires.study.sum c.args.wanted c.requires.up_or_down
    c.force-force.result c.signed.result c.in_ok-least.least.energy c.signed-2.result c.at.result.now.j
    c.in_ok-forced.forced.instance c.in_ok-least.least.spins
    (record {
      force = c.force-force.ensures;
      new = c.signed.ensures;
      copy = ap (λ (e : Embedding). e.instance) c.in_ok-forced.ensures.copy;
      ground = c.in_ok-least.ensures.ground_state;
      value = c.in_ok-least.ensures.energy;
      size = c.in_ok-least.ensures.size;
      coupling = ap (λ (b : Bond). b.j) read;
      own = c.signed-2.ensures;
    })

pub returns-clause-least : goal.returns-clause-least
returns-clause-least c =
    least_found c.args.study.now.planar.now.instance (good c) c.args.bond c.requires.bond_in c.requires.study.sum c.args.wanted c.requires.up_or_down
    c.force-force.result c.signed.result c.in_ok-least.least.energy c.signed-2.result c.at.result.now.j
    c.in_ok-forced.forced.instance c.in_ok-least.least.spins (solved c)

pub returns-clause-product : goal.returns-clause-product
returns-clause-product c =
    product_found c.args.study.now.planar.now.instance (good c) c.args.bond c.requires.bond_in c.requires.study.sum c.args.wanted c.requires.up_or_down
    c.force-force.result c.signed.result c.in_ok-least.least.energy c.signed-2.result c.at.result.now.j
    c.in_ok-forced.forced.instance c.in_ok-least.least.spins (solved c)

pub returns-clause-energy : goal.returns-clause-energy
returns-clause-energy c =
    energy_found c.args.study.now.planar.now.instance (good c) c.args.bond c.requires.bond_in c.requires.study.sum c.args.wanted c.requires.up_or_down
    c.force-force.result c.signed.result c.in_ok-least.least.energy c.signed-2.result c.at.result.now.j
    c.in_ok-forced.forced.instance c.in_ok-least.least.spins (solved c)

pub with_coupling-requires-clause-sum : goal.with_coupling-requires-clause-sum
with_coupling-requires-clause-sum c = grind (arith, common_steps, rows)

pub returns-in_err-least-clause-too_large : goal.returns-in_err-least-clause-too_large
returns-in_err-least-clause-too_large c = grind (arith, common_steps)

pub returns-clause-assignment : goal.returns-clause-assignment
returns-clause-assignment c = grind (arith, common_steps)
