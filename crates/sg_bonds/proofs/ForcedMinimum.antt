-- A coupling larger than the sum of all couplings forces its bond: no ground state breaks it, and so the least energy with
-- that product at the bond is known from the new least energy.
use Rattle.sg_bonds.proofs.Common.{◌≡◌, ◌⊎◌, inl, inr, ℕ, ◌<◌, ◌≤◌, ℤ, pos, neg_ℤ, ◌+ℤ◌, ◌-ℤ◌, ◌*ℤ◌, ◌≤ℤ◌, List, length, replicate, set, refl, sym, ◌∙◌, ap}
use Rattle.sg_bonds.proofs.Common.{ap₂, subst, arith, All, unsigned_abs, ints, get_or-set_same, get_or-set_other, length-set, get_or-replicate}
use Rattle.sg_bonds.proofs.Common.{length-replicate, Bond, Ising, IsBond, bond_at, bond_count, IsInstance, IsUpOrDown, IsAssignment, spin, IsGroundState, IsLeastEnergy, energy, product, weight}
use Rattle.std.proofs.Math.IntN.{*ℤ_comm}
use Rattle.std.proofs.lemmas.List.Elements.{All-replicate, All-set}
use Rattle.sg_model.specs.Changes.{with_coupling}
use Rattle.sg_model.proofs.SameEnds.{recoupled_instance}
use Rattle.sg_model.proofs.Recoupled.{coupling_ends}
use Rattle.sg_model.proofs.BrokenEnergy.{product-up_or_down, unit_ends}
use Rattle.sg_model.proofs.CoupledEnergy.{energy_coupled}
use Rattle.sg_model.proofs.EnergyBounds.{energy_size}
use Rattle.sg_planar.proofs.OtherCouplings.{weight_coupled}
use Rattle.sg_bonds.specs.Cost.{IsLeastWith}

-- two products are the same or opposite
pub same_or_opposite : (x y : ℤ) → IsUpOrDown x → IsUpOrDown y → (x ≡ y) ⊎ (y ≡ neg_ℤ x)
same_or_opposite x y p q = grind (arith, ints, p, q)

abbrev no_bond : Bond
no_bond = record { u = 0; v = 0; j = pos 0 }

module _ (inst : Ising) (good : IsInstance inst) (k : ℕ) (inside : k < bond_count inst) where
  -- the instance without the coupling of bond k
  abbrev loosened : Ising
  loosened = with_coupling inst k (pos 0)

  -- the energy of the other bonds
  abbrev rest : List ℤ → ℤ
  rest s = energy loosened s

  -- the bond joins two spins
  pub joined_at : IsBond inst.n (bond_at inst k)
  joined_at = good.draft.joined k no_bond inside

  -- the product at it is 1 or -1
  pub unit_product : (s : List ℤ) → IsAssignment inst s → IsUpOrDown (product s (bond_at inst k))
  unit_product s h = product-up_or_down s (bond_at inst k) (unit_ends inst s good h k no_bond inside)

  rest_size : (s : List ℤ) → IsAssignment inst s → unsigned_abs (rest s) ≤ weight inst
  rest_size s h =
      let sized : IsInstance loosened = recoupled_instance inst loosened.bonds (coupling_ends inst k (pos 0) inside good.draft.joined (omega arith)) good in
      let bound : unsigned_abs (energy loosened s) ≤ weight loosened = energy_size loosened s sized (record { count = h.count; values = h.values }) in
      omega (arith, bound, weight_coupled inst k (pos 0) inside)

  -- a coupling is at most the sum in size
  pub coupling_size : unsigned_abs (bond_at inst k).j ≤ weight inst
  coupling_size = omega (arith, weight_coupled inst k (pos 0) inside)

  -- an assignment with any product at the bond
  some_with : (p : ℤ) → IsUpOrDown p → (s : List ℤ) × IsAssignment inst s × (product s (bond_at inst k) ≡ p)
  some_with p up = (set (replicate inst.n (pos 1)) (bond_at inst k).u p, record { count = long; values = units }, value)
    where
      long : length (set (replicate inst.n (pos 1)) (bond_at inst k).u p) ≡ inst.n
      long = length-set (replicate inst.n (pos 1)) (bond_at inst k).u p ∙ length-replicate inst.n (pos 1)

      units : All IsUpOrDown (set (replicate inst.n (pos 1)) (bond_at inst k).u p)
      units = All-set IsUpOrDown (replicate inst.n (pos 1)) (bond_at inst k).u p up (All-replicate IsUpOrDown inst.n (pos 1) (inl refl))

      first : spin (set (replicate inst.n (pos 1)) (bond_at inst k).u p) (bond_at inst k).u ≡ p
      first = get_or-set_same (replicate inst.n (pos 1)) (bond_at inst k).u p (pos 1) (omega (arith, length-replicate inst.n (pos 1), joined_at.first_end))

      second : spin (set (replicate inst.n (pos 1)) (bond_at inst k).u p) (bond_at inst k).v ≡ pos 1
      second =
          get_or-set_other (replicate inst.n (pos 1)) (bond_at inst k).u (bond_at inst k).v p (pos 1)
          (λ (e : (bond_at inst k).v ≡ (bond_at inst k).u). joined_at.ends_differ (sym e))
          ∙ get_or-replicate inst.n (bond_at inst k).v (pos 1) (pos 1) joined_at.second_end

      value : product (set (replicate inst.n (pos 1)) (bond_at inst k).u p) (bond_at inst k) ≡ p
      value = let w = ap₂ (λ x y. x *ℤ y) first second in omega (arith, ints, w)

  -- the energy, by that of the other bonds
  old_energy : (s : List ℤ) → energy inst s ≡ rest s -ℤ ((bond_at inst k).j *ℤ product s (bond_at inst k))
  old_energy s = omega (arith, ints, energy_coupled inst k (pos 0) s inside)

  module _ (p : ℤ) (up : IsUpOrDown p) (m : ℕ) (large : weight inst < m) where
    new_energy : (s : List ℤ) → energy (with_coupling inst k (p *ℤ pos m)) s ≡ rest s -ℤ ((p *ℤ pos m) *ℤ product s (bond_at inst k))
    new_energy s = omega (arith, ints, old_energy s, energy_coupled inst k (p *ℤ pos m) s inside)

    with_product : (s : List ℤ) → product s (bond_at inst k) ≡ p → energy (with_coupling inst k (p *ℤ pos m)) s ≡ rest s -ℤ pos m
    with_product s e = grind (arith, ints, new_energy s, up, e)

    without_product : (s : List ℤ) → product s (bond_at inst k) ≡ neg_ℤ p → energy (with_coupling inst k (p *ℤ pos m)) s ≡ rest s -ℤ neg_ℤ (pos m)
    without_product s e = grind (arith, ints, new_energy s, up, e)

    -- where no assignment has less energy, the product is p
    pub least_has_product : (s : List ℤ) → IsAssignment inst s → ((t : List ℤ) → IsAssignment inst t
        → energy (with_coupling inst k (p *ℤ pos m)) s ≤ℤ energy (with_coupling inst k (p *ℤ pos m)) t) → product s (bond_at inst k) ≡ p
    least_has_product s h least = elim (same_or_opposite p (product s (bond_at inst k)) up (unit_product s h)) [
      | inl same ↦ sym same
      | inr turned ↦
          let (t, other, has) = some_with p up in
          absurd (omega (arith, ints, without_product s turned, with_product t has, rest_size s h, rest_size t other, large, least t other))
    ]

    -- with the forced coupling each ground state has this product
    pub forced_product : (s : List ℤ) → IsGroundState (with_coupling inst k (p *ℤ pos m)) s → product s (bond_at inst k) ≡ p
    forced_product s g = least_has_product s (record { count = g.assignment.count; values = g.assignment.values })
        (λ t h. g.least t (record { count = h.count; values = h.values }))

    -- the energy as it was, from that under the force
    pub forced_energy : (t : List ℤ) → product t (bond_at inst k) ≡ p
        → energy inst t ≡ (energy (with_coupling inst k (p *ℤ pos m)) t +ℤ pos m) -ℤ (p *ℤ (bond_at inst k).j)
    forced_energy t same =
        let old = old_energy t ∙ ap (λ q. rest t -ℤ ((bond_at inst k).j *ℤ q)) same ∙ ap (λ x. rest t -ℤ x) (*ℤ_comm (bond_at inst k).j p) in
        omega (arith, ints, old, with_product t same)

    -- and its energy gives the least one with this product
    pub forced_minimum : (e : ℤ) → IsLeastEnergy (with_coupling inst k (p *ℤ pos m)) e → IsLeastWith inst k p ((e +ℤ pos m) -ℤ (p *ℤ (bond_at inst k).j))
    forced_minimum e h = record {
      reached = (h.reached.0, here, has, omega (arith, ints, forced_energy h.reached.0 has, h.reached.2));
      least = λ t u same. omega (arith, ints, forced_energy t same, h.least t (record { count = u.count; values = u.values }));
    }
      where
        here : IsAssignment inst h.reached.0
        here = record { count = h.reached.1.count; values = h.reached.1.values }

        has : product h.reached.0 (bond_at inst k) ≡ p
        has = least_has_product h.reached.0 here (λ t u. subst (λ x. x ≤ℤ energy (with_coupling inst k (p *ℤ pos m)) t) (sym h.reached.2)
            (h.least t (record { count = u.count; values = u.values })))
