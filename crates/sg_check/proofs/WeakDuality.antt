-- Weak duality: a packing of frustrated loops that meets an energy proves that no assignment has less. A frustrated loop
-- has a broken bond in every assignment, so the weights of all loops are at most twice the weight of the broken bonds.
use Rattle.std.proofs.Common.{subst, ap₂, ◌≢◌, inl, inr, ◌≡◌, ℕ, ◌*◌, ◌<◌, ◌≤◌, ◌||◌, ℤ, pos, ◌+ℤ◌, ◌-ℤ◌, ◌≤ℤ◌, Bool, true, false, cond, eqb, List, refl, sym, ◌∙◌, arith, sum_by, length, get_or}
use Rattle.std.specs.Prelude.{unsigned_abs}
use Rattle.std.proofs.lemmas.Int.{ints}
use Rattle.std.proofs.lemmas.List.Recursion.{or_at}
use Rattle.std.proofs.lemmas.Bool.{eq-eqb, ne_eqb, cases_eq}
use Rattle.sg_base.specs.Parity.{xor, parity_by}
use Rattle.sg_base.specs.Sums.{sum_below}
use Rattle.sg_base.specs.Sets.{holds}
use Rattle.sg_base.specs.Ends.{is_end}
use Rattle.sg_base.specs.Loads.{HasMarked}
use Rattle.sg_base.proofs.ParityLaws.{odd-count_by, even_from_mod, odd_from_mod, some_from_odd, parity_by-xor, parity_by-same}
use Rattle.sg_base.proofs.Handshake.{even_set_meets_cut_evenly}
use Rattle.sg_base.proofs.SumLaws.{sum_by_is_sum_below}
use Rattle.sg_base.proofs.Capacity.{weights_below_capacity}
use Rattle.sg_model.specs.Ising.{Ising, IsBond, bond_at, bond_count}
use Rattle.sg_model.specs.WellFormed.{IsInstance}
use Rattle.sg_model.specs.Spins.{IsAssignment, spin}
use Rattle.sg_model.specs.Energy.{IsGroundState, IsLeastEnergy, energy, weight}
use Rattle.sg_model.specs.Broken.{is_negative, is_broken}
use Rattle.sg_model.proofs.BrokenEnergy.{energy_from_costs, broken_cost, HasUnitEnds, unit_ends}
use Rattle.sg_model.proofs.BrokenParity.{is_broken_xor, is_down}
use Rattle.sg_check.specs.declared.packing.Loop.{Loop}
use Rattle.sg_check.specs.Loop.{is_end_of, IsFrustratedLoop}
use Rattle.sg_check.specs.Packing.{Proves, loop_weight, packed_weight}

-- where the two ends differ, one of them is the spin exactly where one and not both are
pub one_end : (a b x : ℕ) → a ≢ b → is_end a b x ≡ (eqb a x || eqb b x)
one_end a b x ne = elim (cases_eq a x) [
  | inl e ↦ let p : eqb a x ≡ true = eq-eqb a x e in let q : eqb b x ≡ false = ne_eqb b x (λ (f : b ≡ x). ne (e ∙ sym f)) in rw (p, q) refl
  | inr f ↦ let p : eqb a x ≡ false = ne_eqb a x f in rw p refl
]

module _ (inst : Ising) (good : IsInstance inst) where
  -- bond k joins two different spins of the instance
  pub joins : (k : ℕ) → k < bond_count inst → IsBond inst.n (bond_at inst k)
  joins k l = good.draft.joined k (record { u = 0; v = 0; j = pos 0 }) l

  ends_at : (t : List ℤ) → IsAssignment inst t → (k : ℕ) → k < bond_count inst → HasUnitEnds t (bond_at inst k)
  ends_at t spins k l = unit_ends inst t good spins k (record { u = 0; v = 0; j = pos 0 }) l

  -- an odd number of the bonds of a frustrated loop are broken
  pub loop_breaks_oddly : (t : List ℤ) → IsAssignment inst t → (bonds : List ℕ) → IsFrustratedLoop inst bonds
      → parity_by (λ k. is_broken t (bond_at inst k)) bonds ≡ true
  loop_breaks_oddly t spins bonds loop = parity_by-same (λ k. is_broken t (bond_at inst k)) (λ k. xor (is_negative (bond_at inst k)) (unlike k)) bonds
      (λ k d l. is_broken_xor t (bond_at inst (get_or bonds k d)) (ends_at t spins (get_or bonds k d) (loop.set.below k d l)))
      ∙ parity_by-xor (λ k. is_negative (bond_at inst k)) unlike bonds
      ∙ ap₂ xor (sym (odd-count_by (λ k. is_negative (bond_at inst k)) bonds) ∙ odd_from_mod _ loop.odd) cut
    where
      unlike : ℕ → Bool
      unlike k = xor (is_down (spin t (bond_at inst k).u)) (is_down (spin t (bond_at inst k).v))

      cut : parity_by unlike bonds ≡ false
      cut = even_set_meets_cut_evenly (λ k. (bond_at inst k).u) (λ k. (bond_at inst k).v) (λ k. true) (λ i. is_down (spin t i)) inst.n bonds
          (λ k d l. (let w : IsBond inst.n (bond_at inst (get_or bonds k d)) = joins (get_or bonds k d) (loop.set.below k d l) in (w.first_end, w.second_end)))
          (λ x l. parity_by-same (λ k. is_end (bond_at inst k).u (bond_at inst k).v x) (λ k. is_end_of (bond_at inst k) x) bonds
          (λ k d l'. one_end (bond_at inst (get_or bonds k d)).u (bond_at inst (get_or bonds k d)).v x
          (joins (get_or bonds k d) (loop.set.below k d l')).ends_differ) ∙ sym (odd-count_by (λ k. is_end_of (bond_at inst k) x) bonds)
          ∙ even_from_mod _ (loop.even x l))

  -- no assignment has less than what a packing proves
  pub no_less : (s : List ℤ) (e : ℤ) (loops : List Loop) → Proves inst s e loops → (t : List ℤ) → IsAssignment inst t → e ≤ℤ energy inst t
  no_less s e loops h t spins =
      let bound : packed_weight loops ≤ sum_below (λ k. cond (is_broken t (bond_at inst k)) (2 * unsigned_abs (bond_at inst k).j) 0) (bond_count inst) =
      weights_below_capacity loop_weight (λ l. holds l.bonds) (λ k. is_broken t (bond_at inst k)) (λ k. 2 * unsigned_abs (bond_at inst k).j)
      (bond_count inst) loops (λ i d l. marked t spins (get_or loops i d) (h.packs.frustrated i d l)) h.packs.within in
      let total : sum_by (broken_cost t) inst.bonds ≡ sum_below (λ k. cond (is_broken t (bond_at inst k)) (2 * unsigned_abs (bond_at inst k).j) 0)
      (bond_count inst) = sum_by_is_sum_below (broken_cost t) inst.bonds (record { u = 0; v = 0; j = pos 0 }) in
      below e (energy inst t) (packed_weight loops) (weight inst) (sum_by (broken_cost t) inst.bonds) h.tight (energy_from_costs inst t good spins)
      (omega arith)
    where
      marked : (t : List ℤ) → IsAssignment inst t → (l : Loop) → IsFrustratedLoop inst l.bonds
          → HasMarked loop_weight (λ (l : Loop). holds l.bonds) (λ k. is_broken t (bond_at inst k)) (bond_count inst) l
      marked t spins l loop =
          let found : (i : ℕ) × (i < length l.bonds) × ((d : ℕ) → is_broken t (bond_at inst (get_or l.bonds i d)) ≡ true) = some_from_odd
          (λ k. is_broken t (bond_at inst k)) l.bonds (loop_breaks_oddly t spins l.bonds loop) in
          let k : ℕ = get_or l.bonds found.0 0 in (
            k,
            loop.set.below found.0 0 found.1,
            found.2 0,
            or_at (λ bs. holds bs k) (λ b. eqb b k) refl (λ _ _. refl) l.bonds found.0 0 found.1 (eq-eqb k k refl),
          )

      below : (e f : ℤ) (y w b : ℕ) → pos y ≡ e +ℤ pos w → f ≡ pos b -ℤ pos w → y ≤ b → e ≤ℤ f
      below e f y w b p q r = omega (arith, ints)

  -- the spins of a proof are a ground state
  pub proves_ground_state : (s : List ℤ) (e : ℤ) (loops : List Loop) → Proves inst s e loops → IsGroundState inst s
  proves_ground_state s e loops h = record {
    assignment = h.assignment;
    least = λ t spins. subst (λ x. x ≤ℤ energy inst t) (sym h.stated) (no_less s e loops h t spins);
  }

  -- the energy of a proof is the least
  pub proves_least_energy : (s : List ℤ) (e : ℤ) (loops : List Loop) → Proves inst s e loops → IsLeastEnergy inst e
  proves_least_energy s e loops h = record { reached = (s, h.assignment, h.stated); least = no_less s e loops h }
