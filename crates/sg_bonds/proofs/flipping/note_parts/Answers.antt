use Rattle.sg_bonds.proofs.Common.{rules, ◌≡◌, ◌∙◌, ◌<◌, ℕ, not, eqb, pos, ap, arith, get_or, length, set, w64, to_z-of_z, get_or_default, length-set, Bond, Ising, bond_at, bond_count, IsInstance}
use Rattle.sg_bonds.specs.Bounds.{Narrows, unbounded}
use Rattle.sg_bonds.specs.Flipped.{with_part_flipped}
use Rattle.sg_bonds.proofs.NarrowedBounds.{just, narrows_noted, narrows_self}
use Rattle.sg_bonds.proofs.PartFlips.{first_part, flipped_assignment, leaves_both, part_turned, second_part}
use Rattle.sg_bonds.proofs.flipping.note_parts.Goals as goal

pub loop-k-init : goal.loop-k-init
loop-k-init c = narrows_self c.args.inst.now c.args.bounds.now

pub loop-k-preserved : goal.loop-k-preserved
loop-k-preserved c =
    let inst : Ising = c.args.inst.now in
    let good : IsInstance inst = c.bonds.ensures.instance in
    let s = c.args.least.now in
    let names = c.args.parts.now.names.items in
    let gains = c.args.parts.now.gains.items in
    let is_names : c.as_slice-names.result.now ≡ names = c.as_slice-names.ensures.value in
    let is_gains : c.as_slice-gains.result.now ≡ gains = c.as_slice-gains.ensures.value in
    let k : ℕ = c.loop-k.k in
    let bounds = c.loop-k.bounds in
    let bonds : c.as_slice-bond-items.result.now ≡ inst.bonds = c.as_slice-bond-items.ensures ∙ c.bonds.ensures.value in
    let low : k < bond_count inst = omega (arith, c.loop-k-test.true, ap (length {A = Bond}) bonds) in
    let here : k < length bounds = omega (arith, low, c.loop-k.invariant.count, c.requires.count) in
    let p : ℕ = get_or names (bond_at inst k).u 0 in
    let q : ℕ = get_or names (bond_at inst k).v 0 in
    let in_p : p < inst.n = first_part inst good names c.requires.parts.names k low in
    let in_q : q < inst.n = second_part inst good names c.requires.parts.names k low in
    let fits_p = rw is_gains at (to_z-of_z {w = w64} {z = get_or c.as_slice-gains.result.now p (pos 0)} (search rules)) in
    let fits_q = rw is_gains at (to_z-of_z {w = w64} {z = get_or c.as_slice-gains.result.now q (pos 0)} (search rules)) in
    let h = rw (bonds, is_names, is_gains, fits_p, get_or_default bounds k (just (pos 0)) unbounded here) at c.noted.ensures in
    let next = set bounds k c.noted.result in
    let there : k < length next = omega (arith, here, length-set bounds k c.noted.result) in
    let g = rw (bonds, is_names, is_gains, fits_q, get_or_default next k (just (pos 0)) unbounded there) at c.noted-in-loop-k.ensures in
    let first : Narrows inst c.args.bounds.now next =
    narrows_noted inst good s c.requires.ground_state (with_part_flipped s names p)
    (flipped_assignment inst good s c.requires.ground_state.assignment names p) (get_or gains p (pos 0)) (c.requires.gains p in_p) c.args.bounds.now bounds
    c.loop-k.invariant k low c.noted.result (not (eqb p q))
    (λ out. part_turned inst good s c.requires.ground_state.assignment names p k low (leaves_both p q out).0) h in
    narrows_noted inst good s c.requires.ground_state (with_part_flipped s names q)
    (flipped_assignment inst good s c.requires.ground_state.assignment names q) (get_or gains q (pos 0)) (c.requires.gains q in_q) c.args.bounds.now next
    first k low c.noted-in-loop-k.result (not (eqb p q))
    (λ out. part_turned inst good s c.requires.ground_state.assignment names q k low (leaves_both p q out).1) g
