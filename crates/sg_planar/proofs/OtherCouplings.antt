-- Other couplings on the same bonds leave an instance planar, while their sum stays bounded.
use Rattle.std.proofs.Common.{◌≡◌, ℕ, ℤ, ◌+◌, ◌^◌, ◌<◌, ◌≤◌, pos, List, map, length, refl, sym, ◌∙◌, ap, subst, arith, get_or, set, sum_by, All}
use Rattle.std.proofs.Common.{get_or-set_same, length-set, unsigned_abs}
use Rattle.std.proofs.lemmas.Int.{ints}
use Rattle.std.proofs.lemmas.List.Elements.{All-from_get_or}
use Rattle.std.proofs.lemmas.List.FromFn.{get_or-map-range_with_len, length-map-range_with_len}
use Rattle.std.proofs.lemmas.List.Sums.{get_or-le-sum_by, sum_by-set}
use Rattle.std.specs.List.{range_with_len}
use Rattle.sg_faces.proofs.SameFaces.{is_euler_same, faces_same}
use Rattle.sg_base.specs.Limits.{forced_limit}
use Rattle.sg_model.proofs.Recoupled.{coupled_at_place, couplings_ends, flipped_ends, negated_ends, coupling_ends}
use Rattle.sg_model.proofs.SameEnds.{recoupled_instance}
use Rattle.sg_model.specs.Changes.{HasSameDrawing, HasSameEnds, coupled_at, coupled_bonds, flipped_at, negated, opposite, recoupled, with_bonds, with_coupling, with_couplings, with_seam_flipped}
use Rattle.sg_model.specs.Energy.{weight}
use Rattle.sg_model.specs.Ising.{Ising, bond_at, bond_count}
use Rattle.sg_model.specs.WellFormed.{IsInstance}
use Rattle.sg_model.specs.declared.bond.Bond.{Bond}
use Rattle.sg_planar.specs.Fit.{Embedding, IsPlanar, IsRedrawn}
use Rattle.sg_base.proofs.ListLaws.{sum_by-agree, sum_by-map_of}
use Rattle.sg_base.proofs.SumLaws.{sum_by_is_sum_below, sum_below-same}
use Rattle.sg_base.specs.Sums.{sum_below}
use Rattle.sg_planar.proofs.ComponentLaws.{components_same}
use Rattle.sg_planar.specs.Naming.{AreComponents}

abbrev no_bond : Bond
no_bond = record { u = 0; v = 0; j = pos 0 }

abbrev size : Bond → ℕ
size b = unsigned_abs b.j

-- with other couplings of a bounded sum it stays planar
pub planar_recoupled : (p : Embedding) (bonds : List Bond) → IsPlanar p → HasSameEnds p.instance bonds
    → weight (with_bonds p.instance bonds) ≤ forced_limit → IsPlanar (record { instance = with_bonds p.instance bonds; faces = p.faces })
planar_recoupled p bonds h same small = grind (arith, recoupled_instance, faces_same, is_euler_same)

size_opposite : (b : Bond) → size (opposite b) ≡ size b
size_opposite b = omega (arith, ints)

-- with other signs the sum of the sizes is the same
pub weight_flipped : (inst : Ising) → weight (with_seam_flipped inst) ≡ weight inst
weight_flipped inst =
    sum_by_is_sum_below size flipped no_bond
    ∙ ap (sum_below (λ k. size (get_or flipped k no_bond))) (length-map-range_with_len (flipped_at inst) 0 (bond_count inst))
    ∙ sum_below-same (λ k. size (get_or flipped k no_bond)) (λ k. size (bond_at inst k)) (bond_count inst) each
    ∙ sym (sum_by_is_sum_below size inst.bonds no_bond)
  where
    flipped : List Bond
    flipped = map (flipped_at inst) (range_with_len 0 (bond_count inst))

    each : (k : ℕ) → k < bond_count inst → size (get_or (map (flipped_at inst) (range_with_len 0 (bond_count inst))) k no_bond) ≡ size (bond_at inst k)
    each k l = grind (arith, get_or-map-range_with_len)

-- other signs leave the weight
pub weight_negated : (inst : Ising) → weight (negated inst) ≡ weight inst
weight_negated inst = sum_by-map_of size opposite inst.bonds ∙ sum_by-agree (λ b. size (opposite b)) size inst.bonds size_opposite

-- the new coupling comes into the sum in place of the old
pub weight_coupled : (inst : Ising) (bond : ℕ) (z : ℤ) → bond < bond_count inst
    → weight (with_coupling inst bond z) + unsigned_abs (bond_at inst bond).j ≡ weight inst + unsigned_abs z
weight_coupled inst bond z l = sum_by-set size inst.bonds bond (recoupled (bond_at inst bond) z) no_bond l

-- a coupling is at most the sum
pub coupling_size : (inst : Ising) (bond : ℕ) (z : ℤ) → bond < bond_count inst → unsigned_abs z ≤ weight (with_coupling inst bond z)
coupling_size inst bond z l =
    let new : List Bond = set inst.bonds bond (recoupled (bond_at inst bond) z) in
    let here : get_or new bond no_bond ≡ recoupled (bond_at inst bond) z = get_or-set_same inst.bonds bond (recoupled (bond_at inst bond) z) no_bond l in
    let at_most : size (get_or new bond no_bond) ≤ sum_by size new = get_or-le-sum_by size new bond no_bond
    (omega (arith, length-set inst.bonds bond (recoupled (bond_at inst bond) z))) in
    omega (arith, ap size here, at_most)

-- the copies of a planar instance with other signs, and with another coupling at one bond
module _ {p : Embedding} (h : IsPlanar p) {lent copy : Ising} (same : lent ≡ p.instance) where
  pub flipped_redrawn : copy ≡ with_seam_flipped lent → IsRedrawn p.instance copy
  flipped_redrawn is = rw (is, same) (record {
    drawing = record { ends = flipped_ends p.instance h.instance.draft.joined; kept = refl };
    sum = omega (arith, weight_flipped p.instance, h.sum);
  })

  pub negated_redrawn : copy ≡ negated lent → IsRedrawn p.instance copy
  negated_redrawn is = rw (is, same) (record {
    drawing = record { ends = negated_ends p.instance h.instance.draft.joined; kept = refl };
    sum = omega (arith, weight_negated p.instance, h.sum);
  })

  pub coupled_redrawn : {y : ℤ} (bond : ℕ) (z : ℤ) → bond < bond_count p.instance → weight (with_coupling p.instance bond z) ≤ forced_limit →
      y ≡ z →
      copy ≡ with_coupling lent bond y → IsRedrawn p.instance copy
  coupled_redrawn bond z l small value is = rw (is, same, value) (record {
    drawing = record {
      ends = coupling_ends p.instance bond z l h.instance.draft.joined (omega (arith, coupling_size p.instance bond z l, small));
      kept = refl;
    };
    sum = small;
  })

-- couplings whose sum is bounded fit their type
pub couplings_small : (inst : Ising) (couplings : List ℤ) → length couplings ≡ bond_count inst → weight (with_couplings inst couplings) ≤ forced_limit
    → All (λ z. unsigned_abs z < 2 ^ 63) couplings
couplings_small inst couplings given small = All-from_get_or (λ z. unsigned_abs z < 2 ^ 63) couplings (pos 0) at
  where
    at : (k : ℕ) → k < length couplings → unsigned_abs (get_or couplings k (pos 0)) < 2 ^ 63
    at k b =
        let new : List Bond = coupled_bonds inst.bonds couplings in
        let here : get_or new k no_bond ≡ recoupled (bond_at inst k) (get_or couplings k (pos 0)) =
        coupled_at_place inst couplings k (omega (arith, b, given)) in
        let at_most : size (get_or new k no_bond) ≤ sum_by size new = get_or-le-sum_by size new k no_bond
        (omega (arith, b, given, length-map-range_with_len (coupled_at inst.bonds couplings) 0 (bond_count inst))) in
        omega (arith, ap size here, at_most, small)

-- other couplings at all bonds leave the drawing
pub couplings_drawing : (inst : Ising) (couplings : List ℤ) → length couplings ≡ bond_count inst →
    weight (with_couplings inst couplings) ≤ forced_limit → HasSameDrawing inst (with_couplings inst couplings)
couplings_drawing inst couplings given small =
    record { ends = couplings_ends inst couplings given (couplings_small inst couplings given small); kept = refl }

-- so it is planar, and has the same components
pub planar_redrawn : (p : Embedding) (other : Ising) → IsPlanar p → HasSameDrawing p.instance other → weight other ≤ forced_limit
    → IsPlanar (record { instance = other; faces = p.faces })
planar_redrawn p other h same small =
    subst (λ (i : Ising). IsPlanar (record { instance = i; faces = p.faces })) (sym same.kept) (planar_recoupled p other.bonds h same.ends small)

-- the components are those of any instance with this drawing
pub components_redrawn : (inst other : Ising) → IsInstance inst → HasSameDrawing inst other → (names leasts : List ℕ) →
    AreComponents inst names leasts → AreComponents other names leasts
components_redrawn inst other good same names leasts h =
    subst (λ (i : Ising). AreComponents i names leasts) (sym same.kept) (components_same inst other.bonds same.ends good names leasts h)
