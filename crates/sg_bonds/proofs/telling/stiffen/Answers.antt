use Rattle.sg_bonds.proofs.Common.{◌<◌, ◌∙◌, ℕ, ap, length, arith, get_or_default, Ising, bond_count, Bond}
use Rattle.sg_bonds.specs.Weakened.{amount_at}
use Rattle.sg_bonds.specs.declared.telling.Told.TheVariants.{Rigid, Unknown}
use Rattle.sg_bonds.proofs.ToldBonds.{stiffened_true, told_more}
use Rattle.sg_bonds.proofs.WeakenedEnergy.{weakened_rigid}
use Rattle.sg_bonds.proofs.telling.stiffen.Goals as goal

pub loop-k-preserved : goal.loop-k-preserved
loop-k-preserved c =
    let inst : Ising = c.args.study.now.planar.now.instance in
    let k : ℕ = c.loop-k.k in
    let bonds = c.bonds.ensures.value ∙ ap (λ (i : Ising). i.bonds) c.instance.ensures.value in
    let low : k < bond_count inst = omega (arith, c.loop-k-test.true, c.len-count.ensures, ap (length {A = Bond}) bonds) in
    let here : k < length c.loop-k.told = omega (arith, low, c.loop-k.invariant.count) in
    let said = rw (get_or_default c.loop-k.told k Rigid Unknown here) at c.stiffened.ensures in
    told_more inst c.loop-k.told c.loop-k.invariant k low c.stiffened.result
    (stiffened_true inst c.loop-k.told c.loop-k.invariant k c.stiffened.result (amount_at c.args.amounts.now k) low
    (λ some. weakened_rigid inst c.instance.ensures.planar.instance c.args.scale (amount_at c.args.amounts.now) c.args.study.now.least.now.spins
    c.requires.least k low some c.requires.study.sum) said)
