-- What a bond costs in its component it costs in the whole: the least energies of the other bonds cancel.
use Rattle.sg_bonds.proofs.Common.{inl, inr, ◌≡◌, ℕ, ◌+◌, ◌<◌, ◌≤◌, ℤ, pos, negsuc, ◌+ℤ◌, ◌-ℤ◌, ◌*ℤ◌, false, cond, List, refl, sym, ◌∙◌, ap, ap₂, subst}
use Rattle.sg_bonds.proofs.Common.{arith, sum_by, length, cases_Bool, false≢true, false_from_ne_true, ints, holds, Ising, IsBond, bond_at, bond_count}
use Rattle.sg_bonds.proofs.Common.{IsInstance, JoinedBy, all_bonds, IsAssignment, IsUpOrDown, spin, IsGroundState, energy, product, weight}
use Rattle.std.proofs.lemmas.List.Elements.{All-from_get_or}
use Rattle.sg_base.specs.Sums.{sum_below}
use Rattle.sg_base.proofs.ListLaws.{cases_in}
use Rattle.sg_base.proofs.MemberSums.{members_sum}
use Rattle.sg_base.proofs.SumLaws.{sum_below-add, sum_below-same, sum_by_is_sum_below}
use Rattle.sg_model.proofs.BrokenEnergy.{broken_cost, energy_from_costs, unit_at}
use Rattle.sg_model.proofs.Paths.{reached_more}
use Rattle.sg_planar.specs.declared.components.Part.{Part}
use Rattle.sg_planar.specs.Parts.{IsPart}
use Rattle.sg_ground.specs.Placed.{HasValues, WritesAt, numbered}
use Rattle.sg_ground.proofs.Glued.{cost_at}
use Rattle.sg_ground.proofs.PartLists.{share_of_part}
use Rattle.sg_ground.proofs.PlacedValues.{all_written}
use Rattle.sg_ground.proofs.Shares.{IsShare, costs_over, in_place, share_assignment, values_in}
use Rattle.sg_bonds.specs.Cost.{IsCost, IsLeastWith}
use Rattle.sg_bonds.proofs.SomeCost.{some_ground_state}

module _ (inst : Ising) (good : IsInstance inst) (least : ℕ) (p : Part) (is : IsPart inst least p) where
  share : IsShare inst p.spins p.bonds p.planar.instance
  share = share_of_part inst least p is

  abbrev whole_cost : List ℤ → ℕ
  whole_cost t = sum_by (broken_cost t) inst.bonds

  abbrev part_cost : List ℤ → ℕ
  part_cost q = sum_by (broken_cost q) p.planar.instance.bonds

  -- what the bonds outside the part cost
  abbrev outside : List ℤ → ℕ
  outside t = sum_below (λ k. cond (holds p.bonds k) 0 (cost_at inst t k)) (bond_count inst)

  -- the whole costs what the part and the other bonds cost
  split : (t q : List ℤ) → HasValues p.spins t q → whole_cost t ≡ part_cost q + outside t
  split t q values =
      let inside = members_sum (cost_at inst t) p.bonds (bond_count inst) share.bonds_below share.bonds_rise in
      let here : sum_by (cost_at inst t) p.bonds ≡ part_cost q = costs_over inst p.spins p.bonds p.planar.instance share t q values in
      let all = sum_by_is_sum_below (broken_cost t) inst.bonds (record { u = 0; v = 0; j = pos 0 }) in
      let apart = sum_below-add (λ k. cond (holds p.bonds k) (cost_at inst t k) 0) (λ k. cond (holds p.bonds k) 0 (cost_at inst t k)) (bond_count inst) in
      let same : sum_below (cost_at inst t) (bond_count inst) ≡
      sum_below (λ k. cond (holds p.bonds k) (cost_at inst t k) 0 + cond (holds p.bonds k) 0 (cost_at inst t k)) (bond_count inst) =
      sum_below-same (cost_at inst t) (λ k. cond (holds p.bonds k) (cost_at inst t k) 0 + cond (holds p.bonds k) 0 (cost_at inst t k)) (bond_count inst)
      (λ k l. grind arith) in
      omega (arith, all, same, apart, inside, here)

  -- the assignment that the whole gives to the part
  part_assignment : (t : List ℤ) → IsAssignment inst t → IsAssignment p.planar.instance (values_in p.spins t)
  part_assignment t h = share_assignment inst p.spins p.bonds p.planar.instance share t h

  -- an assignment of the whole with other values in the part
  record Changed (t q : List ℤ) : Type 0 where
    now : List ℤ
    writes : WritesAt p.spins q t now
    assignment : IsAssignment inst now

  change : (t q : List ℤ) → IsAssignment inst t → IsAssignment p.planar.instance q → Changed t q
  change t q h u =
      let (now, writes) = all_written p.spins q t share.spins_rise (λ i d l. omega (arith, share.spins_below i d l, h.count))
      (omega (arith, u.count, share.spin_count)) in
      record {
        now = now;
        writes = writes;
        assignment = record {
          count = writes.count ∙ h.count;
          values = All-from_get_or IsUpOrDown now (pos 1) (λ x l. elim (cases_in p.spins x) [
            | inl (i, m, same, held) ↦
                subst IsUpOrDown (sym (ap (spin now) (sym same) ∙ writes.values i m)) (unit_at p.planar.instance q u i (omega (arith, m, share.spin_count)))
            | inr (out, none) ↦ subst IsUpOrDown (sym (writes.others x none)) (unit_at inst t h x (omega (arith, l, writes.count, h.count)))
          ]);
        };
      }

  joins : (k : ℕ) → k < bond_count inst → IsBond inst.n (bond_at inst k)
  joins k l = good.draft.joined k (record { u = 0; v = 0; j = pos 0 }) l

  -- a bond that is not one of the part has no spin of it
  first_out : (k : ℕ) → k < bond_count inst → holds p.bonds k ≡ false → holds p.spins (bond_at inst k).u ≡ false
  first_out k l out = false_from_ne_true (holds p.spins (bond_at inst k).u) (λ h. false≢true (sym out ∙ (is.bonds k).1 (l, h)))

  second_out : (k : ℕ) → k < bond_count inst → holds p.bonds k ≡ false → holds p.spins (bond_at inst k).v ≡ false
  second_out k l out =
      false_from_ne_true (holds p.spins (bond_at inst k).v)
      (λ h. (let back : JoinedBy inst all_bonds (bond_at inst k).v (bond_at inst k).u =
      record { bond = k; below = l; in_set = refl; ends = inr (refl, refl) } in
      false≢true (sym (first_out k l out) ∙ (is.spins (bond_at inst k).u).1
      ((joins k l).first_end, reached_more inst all_bonds least (bond_at inst k).v (bond_at inst k).u ((is.spins (bond_at inst k).v).0 h).1 back))))

  same_outside : (t q now : List ℤ) → WritesAt p.spins q t now → outside now ≡ outside t
  same_outside t q now writes =
      sum_below-same (λ k. cond (holds p.bonds k) 0 (cost_at inst now k)) (λ k. cond (holds p.bonds k) 0 (cost_at inst t k)) (bond_count inst)
      (λ k l. elim (cases_Bool (holds p.bonds k)) [
        | inl held ↦ rw held refl
        | inr out ↦ rw (writes.others (bond_at inst k).u (first_out k l out), writes.others (bond_at inst k).v (second_out k l out)) refl
      ])

  -- the energy of the whole by that of the part
  pub energy_split : (t q : List ℤ) → IsAssignment inst t → IsAssignment p.planar.instance q → HasValues p.spins t q →
      energy inst t ≡ energy p.planar.instance q +ℤ ((pos (outside t) +ℤ pos (weight p.planar.instance)) -ℤ pos (weight inst))
  energy_split t q h u values =
      omega (arith, ints, energy_from_costs inst t good h, energy_from_costs p.planar.instance q share.good u, split t q values)

  module _ (g : List ℤ) (ground : IsGroundState inst g) where
    -- a ground state has the least outside
    least_outside : (t : List ℤ) → IsAssignment inst t → outside g ≤ outside t
    least_outside t h =
        let changed : Changed t (values_in p.spins g) = change t (values_in p.spins g) h (part_assignment g ground.assignment) in
        let own = energy_split g (values_in p.spins g) ground.assignment (part_assignment g ground.assignment) (in_place p.spins g) in
        let new = energy_split changed.now (values_in p.spins g) changed.assignment (part_assignment g ground.assignment) changed.writes.values in
        let same = same_outside t (values_in p.spins g) changed.now changed.writes in
        omega (arith, ints, own, new, same, ground.least changed.now changed.assignment)

    abbrev others : ℤ
    others = (pos (outside g) +ℤ pos (weight p.planar.instance)) -ℤ pos (weight inst)

    module _ (i : ℕ) (l : i < length p.bonds) where
      same_product : (t q : List ℤ) → HasValues p.spins t q → product t (bond_at inst (numbered p.bonds i)) ≡ product q (bond_at p.planar.instance i)
      same_product t q values =
          let joined = share.good.draft.joined i (record { u = 0; v = 0; j = pos 0 }) (omega (arith, l, share.bond_counts)) in
          ap₂ (λ x y. x *ℤ y)
          (ap (spin t) (sym (share.first_end i l)) ∙ values (bond_at p.planar.instance i).u (omega (arith, joined.first_end, share.spin_count)))
          (ap (spin t) (sym (share.second_end i l)) ∙ values (bond_at p.planar.instance i).v (omega (arith, joined.second_end, share.spin_count)))

      least_with_in : (x e : ℤ) → IsLeastWith p.planar.instance i x e → IsLeastWith inst (numbered p.bonds i) x (e +ℤ others)
      least_with_in x e h =
          let (q, u, has, value) = h.reached in
          let changed : Changed g q = change g q ground.assignment u in record {
            reached = (
              changed.now,
              changed.assignment,
              same_product changed.now q changed.writes.values ∙ has,
              energy_split changed.now q changed.assignment u changed.writes.values
                  ∙ ap₂ (λ a o. a +ℤ ((pos o +ℤ pos (weight p.planar.instance)) -ℤ pos (weight inst))) value (same_outside g q changed.now changed.writes),
            );
            least = λ t a same.
                let parted = energy_split t (values_in p.spins t) a (part_assignment t a) (in_place p.spins t) in
                let most = h.least (values_in p.spins t) (part_assignment t a) (sym (same_product t (values_in p.spins t) (in_place p.spins t)) ∙ same) in
                omega (arith, ints, parted, most, least_outside t a);
          }

      cost_in : (c : ℤ) → IsCost p.planar.instance i c → IsCost inst (numbered p.bonds i) c
      cost_in c cost = record {
        like = cost.like +ℤ others;
        unlike = cost.unlike +ℤ others;
        least_like = least_with_in (pos 1) cost.like cost.least_like;
        least_unlike = least_with_in (negsuc 0) cost.unlike cost.least_unlike;
        apart = omega (arith, ints, cost.apart);
      }

  -- a cost of the part is one of the whole
  pub part_costs : (i : ℕ) → i < length p.bonds → (c : ℤ) → IsCost p.planar.instance i c → IsCost inst (numbered p.bonds i) c
  part_costs i l c cost = let (g, ground) = some_ground_state inst good in cost_in g ground i l c cost
