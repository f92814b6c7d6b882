use Rattle.sg_bonds.proofs.Common.{rules, ◌∙◌, ◌<◌, ℕ, pos, ap, arith, length, w64, to_z-of_z, get_or_default, Bond, Ising, bond_count}
use Rattle.sg_base.proofs.SumLaws.{at-le-sum_below}
use Rattle.sg_bonds.specs.Bounds.{unbounded}
use Rattle.sg_bonds.specs.Weakened.{amount_at}
use Rattle.sg_bonds.proofs.EvenCosts.{narrows_raised, weakened_even}
use Rattle.sg_bonds.proofs.NarrowedBounds.{just, narrows_self}
use Rattle.sg_bonds.proofs.enclosing.raise.Goals as goal

pub loop-k-init : goal.loop-k-init
loop-k-init c = narrows_self c.args.study.now.planar.now.instance c.args.bounds.now

pub even_bound-requires-clause-size : goal.even_bound-requires-clause-size
even_bound-requires-clause-size c =
    let inst : Ising = c.args.study.now.planar.now.instance in
    let k : ℕ = c.loop-k.k in
    let bonds = c.bonds.ensures.value ∙ ap (λ (i : Ising). i.bonds) c.instance.ensures.value in
    let low : k < bond_count inst = omega (arith, c.loop-k-test.true, c.len-count.ensures, ap (length {A = Bond}) bonds) in
    omega (arith, c.requires.fits, at-le-sum_below (amount_at c.args.amounts.now) k (bond_count inst) low)

pub loop-k-preserved : goal.loop-k-preserved
loop-k-preserved c =
    let inst : Ising = c.args.study.now.planar.now.instance in
    let k : ℕ = c.loop-k.k in
    let bonds = c.bonds.ensures.value ∙ ap (λ (i : Ising). i.bonds) c.instance.ensures.value in
    let low : k < bond_count inst = omega (arith, c.loop-k-test.true, c.len-count.ensures, ap (length {A = Bond}) bonds) in
    let here : k < length c.loop-k.bounds = omega (arith, low, c.loop-k.invariant.count, c.requires.count) in
    let fits = to_z-of_z {w = w64} {z = c.even_bound.result} (search rules) in
    narrows_raised inst c.instance.ensures.planar.instance c.args.bounds.now c.loop-k.bounds c.loop-k.invariant k low c.raised.result c.even_bound.result
    (λ are x cost. weakened_even inst c.instance.ensures.planar.instance k x cost c.args.scale (amount_at c.args.amounts.now) c.args.study.now.least.now.spins
    c.requires.least low c.even_bound.result c.even_bound.ensures)
    (rw (fits, get_or_default c.loop-k.bounds k (just (pos 0)) unbounded here) at c.raised.ensures)
