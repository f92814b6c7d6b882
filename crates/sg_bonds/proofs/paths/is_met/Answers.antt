use Rattle.sg_bonds.proofs.Common.{rules, ◌<◌, ◌≤ℤ◌, pos, subst, length, get_or, w64, to_z-of_z, arith, ℤ, List, Bool, get_or_default, has, Reached, bond_at}
use Rattle.sg_bonds.specs.Bounds.{unbounded}
use Rattle.sg_bonds.proofs.NarrowedBounds.{just}
use Rattle.sg_bonds.proofs.PathBounds.{met_by_path}
use Rattle.sg_bonds.proofs.paths.is_met.Goals as goal

pub returns : goal.returns
returns c = λ joined.
    let inst = c.args.inst.now in
    let bounds = c.args.bounds.now in
    let k = c.args.bond in
    let here : k < length bounds = omega (arith, c.requires.bond_in, c.requires.count) in
    let high : ℤ = (get_or bounds k (just (pos 0))).high in
    let fits = to_z-of_z {w = w64} {z = high} (search rules) in
    let some : pos 0 ≤ℤ high = search rules in
    let each = rw fits at c.in_ok-set.ensures.each in
    met_by_path inst bounds k (get_or bounds k (just (pos 0))) (get_or_default bounds k (just (pos 0)) unbounded here) (has c.in_ok-set.set.items)
    (λ i l. each i (omega (arith, l, c.requires.count))) some
    (subst (λ (set : List Bool). Reached inst (has set) (bond_at inst k).u (bond_at inst k).v) c.deref.ensures.value (c.in_ok-is_joined.ensures joined))
