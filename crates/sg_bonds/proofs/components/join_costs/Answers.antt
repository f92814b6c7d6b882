use Rattle.sg_bonds.proofs.Common.{◌≡◌, ◌<◌, ◌∙◌, ℤ, List, ℕ, All, ap, length, subst, sym, rules, with_items_is, bond_count}
use Rattle.std.specs.List.Sorted.{IsStrictlyIncreasing}
use Rattle.sg_ground.specs.Placed.{WritesAt}
use Rattle.sg_bonds.proofs.JoinedCosts.{all_joined, joined_more, part_light, share}
use Rattle.sg_bonds.proofs.components.join_costs.Goals as goal

pub part_costs-requires : goal.part_costs-requires
part_costs-requires c = record {
  sum = part_light c.args.inst.now c.bonds.ensures.instance c.args.parts.now c.requires.parts c.loop-part.part-index
      c.part-item.result c.loop-part-test.true c.part-item.is c.requires.sum;
}

pub place_costs-requires : goal.place_costs-requires
place_costs-requires c =
    let here = share c.args.inst.now c.bonds.ensures.instance c.args.parts.now c.requires.parts c.loop-part.part-index
    c.part-item.result c.loop-part-test.true c.part-item.is in
    let long : length c.deref_mut.result.now ≡ bond_count c.args.inst.now = ap length c.deref_mut.ensures.value ∙ c.loop-part.invariant.count in
    record {
      rising = subst IsStrictlyIncreasing (sym c.as_slice.ensures) here.bonds_rise;
      below = subst (λ (list : List ℕ). All (λ k. k < length c.deref_mut.result.now) list) (sym c.as_slice.ensures)
          (subst (λ n. All (λ k. k < n) c.part-item.result.bonds) (sym long) here.bonds_below);
      count = ap length c.as_slice-in-loop-part.ensures ∙ c.in_ok-found.ensures.count ∙ here.bond_counts ∙ ap length (sym c.as_slice.ensures);
    }

pub loop-part-preserved : goal.loop-part-preserved
loop-part-preserved c =
    let new : List ℤ = c.place_costs.new.costs in
    let writes : WritesAt c.part-item.result.bonds c.in_ok-found.found c.loop-part.costs.items new =
    subst (λ (old : List ℤ). WritesAt c.part-item.result.bonds c.in_ok-found.found old new) c.deref_mut.ensures.value
    (subst (λ (found : List ℤ). WritesAt c.part-item.result.bonds found c.deref_mut.result.now new) c.as_slice-in-loop-part.ensures
    (subst (λ (list : List ℕ). WritesAt list c.as_slice-in-loop-part.result.now c.deref_mut.result.now new) c.as_slice.ensures c.place_costs.ensures)) in
    rw (with_items_is c.loop-part.costs new (c.place_costs.auto.costs ∙ c.deref_mut.ensures.len))
    (joined_more c.args.inst.now c.bonds.ensures.instance c.args.parts.now c.requires.parts c.loop-part.part-index
    c.part-item.result c.loop-part-test.true c.part-item.is c.loop-part.costs.items new c.in_ok-found.found c.loop-part.invariant c.in_ok-found.ensures writes)

pub returns : goal.returns
returns c =
    rw c.from_vec.ensures
    (all_joined c.args.inst.now c.bonds.ensures.instance c.args.parts.now c.requires.parts c.loop-part.part-index
    (search rules) c.loop-part.costs.items c.loop-part.invariant)
