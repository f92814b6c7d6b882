use Rattle.sg_bonds.proofs.Common.{rules, ◌≡◌, ◌∙◌, ◌<◌, ℤ, ◌+ℤ◌, ap, arith, length, sym, w64, to_z, of_z, to_z-of_z, Bond, Ising, bond_count, energy}
use Rattle.sg_bonds.proofs.PartFlips.{first_fits, flipped_energy, gain_at, gains_long, gains_more, second_fits}
use Rattle.sg_bonds.proofs.WeakenedEnergy.{total}
use Rattle.sg_bonds.proofs.flipping.add_gains.Goals as goal

pub add-requires-clause-size : goal.add-requires-clause-size
add-requires-clause-size c =
    let inst : Ising = c.args.inst.now in
    let bonds : c.as_slice-bond-items.result.now ≡ inst.bonds = c.as_slice-bond-items.ensures ∙ c.bonds.ensures.value in
    let low : c.loop-bond.bond-index < bond_count inst = omega (arith, c.loop-bond-test.true, ap (length {A = Bond}) bonds) in
    let fits : to_z w64 (of_z w64 c.gain_at-gain.result) ≡ c.gain_at-gain.result = to_z-of_z {w = w64} {z = c.gain_at-gain.result} (search rules) in
    rw (fits, c.gain_at-gain.ensures, bonds)
    (first_fits inst c.bonds.ensures.instance c.args.least.now c.requires.assignment c.args.names.now c.requires.names c.loop-bond.bond-index low
    c.loop-bond.gains c.loop-bond.invariant.count c.loop-bond.invariant.gains c.requires.sum)

pub add-requires-in-loop-bond-clause-size : goal.add-requires-in-loop-bond-clause-size
add-requires-in-loop-bond-clause-size c =
    let inst : Ising = c.args.inst.now in
    let bonds : c.as_slice-bond-items.result.now ≡ inst.bonds = c.as_slice-bond-items.ensures ∙ c.bonds.ensures.value in
    let low : c.loop-bond.bond-index < bond_count inst = omega (arith, c.loop-bond-test.true, ap (length {A = Bond}) bonds) in
    let fits : to_z w64 (of_z w64 c.gain_at-gain.result) ≡ c.gain_at-gain.result = to_z-of_z {w = w64} {z = c.gain_at-gain.result} (search rules) in
    rw (c.add.ensures, fits, c.gain_at-gain.ensures, bonds)
    (second_fits inst c.bonds.ensures.instance c.args.least.now c.requires.assignment c.args.names.now c.requires.names c.loop-bond.bond-index low
    c.loop-bond.gains c.loop-bond.invariant.count c.loop-bond.invariant.gains c.requires.sum)

pub loop-bond-preserved : goal.loop-bond-preserved
loop-bond-preserved c =
    let inst : Ising = c.args.inst.now in
    let bonds : c.as_slice-bond-items.result.now ≡ inst.bonds = c.as_slice-bond-items.ensures ∙ c.bonds.ensures.value in
    let low : c.loop-bond.bond-index < bond_count inst = omega (arith, c.loop-bond-test.true, ap (length {A = Bond}) bonds) in
    let fits : to_z w64 (of_z w64 c.gain_at-gain.result) ≡ c.gain_at-gain.result = to_z-of_z {w = w64} {z = c.gain_at-gain.result} (search rules) in
    record {
      count = rw (c.add-in-loop-bond.ensures, c.add.ensures, fits, c.gain_at-gain.ensures, bonds)
          (gains_long inst c.bonds.ensures.instance c.args.least.now c.requires.assignment c.args.names.now c.requires.names c.loop-bond.bond-index low
          c.loop-bond.gains c.loop-bond.invariant.count c.loop-bond.invariant.gains);
      gains = λ part l. rw (c.add-in-loop-bond.ensures, c.add.ensures, fits, c.gain_at-gain.ensures, bonds)
          (gains_more inst c.bonds.ensures.instance c.args.least.now c.requires.assignment c.args.names.now c.requires.names c.loop-bond.bond-index low
          c.loop-bond.gains c.loop-bond.invariant.count c.loop-bond.invariant.gains part l);
    }

pub returns-clause-gains : goal.returns-clause-gains
returns-clause-gains c = λ part l.
    let inst : Ising = c.args.inst.now in
    let bonds : c.as_slice-bond-items.result.now ≡ inst.bonds = c.as_slice-bond-items.ensures ∙ c.bonds.ensures.value in
    let all : c.loop-bond.bond-index ≡ bond_count inst = omega (arith, c.loop-bond-test.false, c.loop-bond.auto.bond-index-end, ap (length {A = Bond}) bonds) in
    flipped_energy inst c.bonds.ensures.instance c.args.least.now c.requires.assignment c.args.names.now part
    ∙ ap (λ (x : ℤ). energy inst c.args.least.now +ℤ x)
    (sym (c.loop-bond.invariant.gains part l ∙ ap (total (gain_at inst c.args.least.now c.args.names.now part)) all))
