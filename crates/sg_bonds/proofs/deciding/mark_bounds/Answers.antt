use Rattle.sg_bonds.proofs.Common.{rules, ◌≡◌, ◌<◌, inl, inr, ℕ, false, pos, ap, arith, get_or, length, w64, to_z-of_z, cases_Bool, get_or_default, Bond, Ising, bond_count}
use Rattle.sg_bonds.specs.Bounds.{bound_at, unbounded}
use Rattle.sg_bonds.proofs.EvenCosts.{decides_more, free_cost, narrows_rigid}
use Rattle.sg_bonds.proofs.NarrowedBounds.{just, narrows_cost, narrows_self}
use Rattle.sg_bonds.proofs.deciding.mark_bounds.Goals as goal

pub loop-k-init : goal.loop-k-init
loop-k-init c = record { narrows = narrows_self c.args.inst.now c.args.bounds.now; decided = λ i l. absurd (omega (arith, l)) }

pub loop-k-preserved : goal.loop-k-preserved
loop-k-preserved c =
    let inst : Ising = c.args.inst.now in
    let k : ℕ = c.loop-k.k in
    let bounds = c.loop-k.bounds in
    let low : k < bond_count inst = omega (arith, c.loop-k-test.true, c.len-count.ensures, ap (length {A = Bond}) c.bonds.ensures.value) in
    let here : k < length bounds = omega (arith, low, c.loop-k.invariant.narrows.count, c.requires.count) in
    let read : get_or bounds k (just (pos 0)) ≡ bound_at bounds k = get_or_default bounds k (just (pos 0)) unbounded here in
    let fits = to_z-of_z {w = w64} {z = c.most_cost-most.result} (search rules) in
    record {
      narrows = elim (cases_Bool (get_or c.args.marks.now k false)) [
        | inl marked ↦
            narrows_rigid inst c.bonds.ensures.instance c.args.bounds.now bounds c.loop-k.invariant.narrows k low c.marked.result
            ((c.requires.rigid k low).0 marked) (rw read at (c.marked.ensures.low marked))
            (rw (read, fits, c.most_cost-most.ensures) at (c.marked.ensures.high marked))
        | inr unmarked ↦
            narrows_cost inst c.args.bounds.now bounds c.loop-k.invariant.narrows k c.marked.result low (pos 0)
            (λ are. free_cost inst c.bonds.ensures.instance c.requires.sum k low (λ rigid. (let other = (c.requires.rigid k low).1 rigid in cc)))
            (c.marked.ensures.free unmarked)
      ];
      decided = decides_more bounds k c.marked.result here c.loop-k.invariant.decided c.marked.ensures.decides;
    }
