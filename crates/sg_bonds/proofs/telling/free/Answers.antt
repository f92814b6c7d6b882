use Rattle.sg_bonds.proofs.Common.{◌<◌, ◌∙◌, ap, length, arith, get_or_default, bond_count}
use Rattle.sg_bonds.specs.declared.telling.Told.TheVariants.{Rigid, Unknown}
use Rattle.sg_bonds.proofs.RigidBounds.{free_turned}
use Rattle.sg_bonds.proofs.ToldBonds.{freed_true, told_more}
use Rattle.sg_bonds.proofs.telling.free.Goals as goal

pub loop-k-preserved : goal.loop-k-preserved
loop-k-preserved c =
    let bonds = c.as_slice-bond-items.ensures ∙ c.bonds.ensures.value in
    let low : c.loop-k.k < bond_count c.args.inst.now = omega (arith, c.loop-k-test.true, ap length bonds) in
    let here : c.loop-k.k < length c.loop-k.told = omega (arith, low, c.loop-k.invariant.count) in
    let turned = rw bonds at c.is_turned-turns.ensures in
    let said = rw (get_or_default c.loop-k.told c.loop-k.k Rigid Unknown here) at c.freed.ensures in
    told_more c.args.inst.now c.loop-k.told c.loop-k.invariant c.loop-k.k low c.freed.result
    (freed_true c.args.inst.now c.loop-k.told c.loop-k.invariant c.loop-k.k c.freed.result c.is_turned-turns.result low
    (λ yes_turned. free_turned c.args.inst.now c.bonds.ensures.instance c.args.least.now c.requires.ground_state c.loop-k.k low c.args.turned.now
    c.requires.assignment c.requires.level (turned yes_turned)) said)
