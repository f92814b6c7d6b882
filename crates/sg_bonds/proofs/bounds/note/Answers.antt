use Rattle.sg_bonds.proofs.Common.{rules, ◌<◌, ◌∙◌, pos, Bool, false, List, ap, sym, get_or, length, arith, w64, to_z-of_z, get_or_default, is_marked, bond_count}
use Rattle.sg_bonds.specs.Bounds.{unbounded}
use Rattle.sg_bonds.proofs.NarrowedBounds.{just, narrows_noted, narrows_self}
use Rattle.sg_bonds.proofs.bounds.note.Goals as goal

pub loop-k-init : goal.loop-k-init
loop-k-init c = narrows_self c.args.inst.now c.args.bounds.now

pub loop-k-preserved : goal.loop-k-preserved
loop-k-preserved c =
    let low : c.loop-k.k < bond_count c.args.inst.now = omega (arith, c.loop-k-test.true, c.len-count.ensures, ap length c.bonds.ensures.value) in
    let here : c.loop-k.k < length c.loop-k.bounds = omega (arith, low, c.loop-k.invariant.count, c.requires.count) in
    let told = rw (get_or_default c.loop-k.bounds c.loop-k.k (just (pos 0)) unbounded here) at c.noted.ensures in
    let fits = to_z-of_z {w = w64} {z = c.args.turned.now.cost} (search rules) in
    narrows_noted c.args.inst.now c.bonds.ensures.instance c.args.least.now c.requires.ground_state c.requires.turned.state c.requires.turned.assignment
    c.args.turned.now.cost c.requires.turned.above c.args.bounds.now c.loop-k.bounds c.loop-k.invariant c.loop-k.k low c.noted.result
    (get_or c.as_slice-marks.result.now c.loop-k.k false)
    (λ yes. c.requires.turned.turns c.loop-k.k low (ap (λ (m : List Bool). is_marked m c.loop-k.k) (sym c.as_slice-marks.ensures.value) ∙ yes))
    (rw fits at told)
