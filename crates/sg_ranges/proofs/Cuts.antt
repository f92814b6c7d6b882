-- Cuts as energies.
use Rattle.std.proofs.Common.{◌≡◌, ◌+◌, ◌*◌, ◌≤◌, ℤ, pos, neg_ℤ, ◌+ℤ◌, ◌-ℤ◌, ◌*ℤ◌, cond, not, List, [], ◌∷◌, map, fold, refl, sym, ◌∙◌, ap, subst, arith, All}
use Rattle.std.proofs.Common.{sum_by, to_z, of_z, w64, ◌^◌, FitsSigned, unsigned_abs, int_eq}
use Rattle.std.specs.Int.{w128}
use Rattle.std.proofs.lemmas.Int.{ints, fits_signed_from_abs, to_z-of_z}
use Rattle.std.proofs.lemmas.List.Elements.{All-head, All-tail}
use Rattle.std.proofs.lemmas.List.Sums.{sum_by-cons}
use Rattle.sg_model.specs.declared.bond.Bond.{Bond}
use Rattle.sg_model.specs.Ising.{Ising}
use Rattle.sg_model.specs.WellFormed.{IsInstance}
use Rattle.sg_model.specs.Spins.{IsUpOrDown, IsAssignment, spin}
use Rattle.sg_model.specs.Energy.{IsGroundState, energy, product, weight}
use Rattle.sg_model.specs.Changes.{HasSameEnds, negated, opposite}
use Rattle.sg_model.specs.Connected.{LeastsUp, all_bonds}
use Rattle.sg_model.proofs.Recoupled.{negated_ends}
use Rattle.sg_model.proofs.SamePaths.{reached_same}
use Rattle.sg_model.proofs.BrokenEnergy.{HasUnitEnds, unit_ends}
use Rattle.sg_base.specs.Limits.{forced_limit}
use Rattle.sg_check.specs.declared.packing.Loop.{Loop}
use Rattle.sg_check.specs.Packing.{Proves}
use Rattle.sg_ranges.specs.Cut.{IsLargestCut, coupling_sum, cut_weight, is_cut}

-- what a bond adds to the weight of a cut
abbrev part : List ℤ → Bond → ℤ
part s b = cond (is_cut s b) b.j (pos 0)

one_bond : (s : List ℤ) (b : Bond) → HasUnitEnds s b → neg_ℤ b.j *ℤ product s b ≡ (pos 2 *ℤ part s b) -ℤ b.j
one_bond s b h = by_ends (spin s b.u) (spin s b.v) b.j h.first h.second
  where
    by_ends : (x y j : ℤ) → IsUpOrDown x → IsUpOrDown y → neg_ℤ j *ℤ (x *ℤ y) ≡ (pos 2 *ℤ cond (not (int_eq x y)) j (pos 0)) -ℤ j
    by_ends x y j p q = grind (arith, ints, p, q)

bond_by_bond : (s : List ℤ) (a b c : ℤ) (bonds : List Bond) → All (HasUnitEnds s) bonds → a ≡ (pos 2 *ℤ b) -ℤ c →
    fold (λ total b. total +ℤ (b.j *ℤ product s b)) a (map opposite bonds) ≡
    (pos 2 *ℤ fold (λ total b. total +ℤ part s b) b bonds) -ℤ fold (λ total b. total +ℤ b.j) c bonds
bond_by_bond s a b c [] h e = e
bond_by_bond s a b c (d ∷ bonds) h e =
    bond_by_bond s (a +ℤ (neg_ℤ d.j *ℤ product s d)) (b +ℤ part s d) (c +ℤ d.j) bonds (All-tail (HasUnitEnds s) d bonds h)
    (omega (arith, ints, e, one_bond s d (All-head (HasUnitEnds s) d bonds h)))

-- with every sign changed, the energy is the sum of all couplings less twice the weight of the cut
pub energy_negated : (inst : Ising) (s : List ℤ) → IsInstance inst → IsAssignment inst s
    → energy (negated inst) s ≡ coupling_sum inst -ℤ (pos 2 *ℤ cut_weight inst s)
energy_negated inst s good h =
    let sum = bond_by_bond s (pos 0) (pos 0) (pos 0) inst.bonds (unit_ends inst s good h) refl in
    omega (arith, ints, sum)

-- a sum of parts, each of which is at most the coupling in size
parts_size : (f : Bond → ℤ) → ((b : Bond) → unsigned_abs (f b) ≤ unsigned_abs b.j) → (total : ℤ) (bonds : List Bond) →
    unsigned_abs (fold (λ total b. total +ℤ f b) total bonds) ≤ unsigned_abs total + sum_by (λ b. unsigned_abs b.j) bonds
parts_size f small total [] = omega arith
parts_size f small total (b ∷ bonds) =
    omega (arith, ints, small b, sum_by-cons (λ b. unsigned_abs b.j) b bonds, parts_size f small (total +ℤ f b) bonds)

-- the weight of a cut is at most the weight of all bonds in size
pub cut_size : (inst : Ising) (s : List ℤ) → unsigned_abs (cut_weight inst s) ≤ weight inst
cut_size inst s = omega (arith, parts_size (part s) (λ b. grind arith) (pos 0) inst.bonds)

-- the sum over the bonds as they are lent, in 128 bits and then in 64
module _ (inst : Ising) (s : List ℤ) (small : weight inst ≤ forced_limit) (x : ℤ) (bonds : List Bond) (size : unsigned_abs x ≤ 2 ^ 24 * 2 ^ 63)
    (value : x ≡ fold (λ total b. total +ℤ cond (is_cut s b) b.j (pos 0)) (pos 0) bonds) (lent : bonds ≡ inst.bonds) where
  wide : to_z w128 (of_z w128 x) ≡ x
  wide = to_z-of_z w128 x (fits_signed_from_abs w128 x (omega arith))

  is_weight : x ≡ cut_weight inst s
  is_weight = value ∙ ap (fold (λ total b. total +ℤ cond (is_cut s b) b.j (pos 0)) (pos 0)) lent

  -- the weight of a cut fits 64 bits
  pub cut_fits : FitsSigned w64 (to_z w128 (of_z w128 x))
  cut_fits = fits_signed_from_abs w64 (to_z w128 (of_z w128 x)) (omega (arith, cut_size inst s, ap unsigned_abs (wide ∙ is_weight)))

  -- so the cast keeps it
  pub cut_kept : to_z w64 (of_z w64 (to_z w128 (of_z w128 x))) ≡ cut_weight inst s
  cut_kept = to_z-of_z w64 (to_z w128 (of_z w128 x)) cut_fits ∙ wide ∙ is_weight

-- a number that is a cut weight, after its way through its bits
pub cut_again : (inst : Ising) (s : List ℤ) (x : ℤ) → weight inst ≤ forced_limit → x ≡ cut_weight inst s → to_z w64 (of_z w64 x) ≡ cut_weight inst s
cut_again inst s x small e = to_z-of_z w64 x (fits_signed_from_abs w64 x (omega (arith, cut_size inst s, ap unsigned_abs e))) ∙ e

module _ (inst other : Ising) (good : IsInstance inst) (same : other ≡ negated inst) (s : List ℤ) where
  -- a ground state where every sign is changed is a largest cut
  pub cut_found : (x : ℤ) → IsGroundState other s → x ≡ cut_weight inst s → IsLargestCut inst s x
  cut_found x g value = record {
    assignment = here;
    weight = sym value;
    largest = λ t h.
        let own = energy_negated inst s good here in
        omega (arith, ints, own, energy_negated inst t good h, value, ground.least t (record { count = h.count; values = h.values }));
  }
    where
      ground : IsGroundState (negated inst) s
      ground = subst (λ i. IsGroundState i s) same g

      here : IsAssignment inst s
      here = record { count = ground.assignment.count; values = ground.assignment.values }

  -- and what proves the one proves the other
  pub cut_proved : (x e : ℤ) (loops : List Loop) → Proves other s e loops → x ≡ cut_weight inst s
      → Proves (negated inst) s (coupling_sum inst -ℤ (pos 2 *ℤ x)) loops
  cut_proved x e loops h value =
      let there : Proves (negated inst) s e loops = subst (λ i. Proves i s e loops) same h in
      let here : IsAssignment inst s = record { count = there.assignment.count; values = there.assignment.values } in
      subst (λ y. Proves (negated inst) s y loops) (sym there.stated ∙ energy_negated inst s good here
      ∙ ap (λ y. coupling_sum inst -ℤ (pos 2 *ℤ y)) (sym value)) there

  -- the least spin of each component is the same
  pub leasts_up : LeastsUp other s → LeastsUp inst s
  leasts_up h i l least = there i l (λ j r. least j (reached_same (negated inst) inst.bonds back all_bonds i j r))
    where
      there : LeastsUp (negated inst) s
      there = subst (λ k. LeastsUp k s) same h

      forth : HasSameEnds inst (map opposite inst.bonds)
      forth = negated_ends inst good.draft.joined

      back : HasSameEnds (negated inst) inst.bonds
      back = record {
        count = sym forth.count;
        first = λ k. sym (forth.first k);
        second = λ k. sym (forth.second k);
        sizes = λ k d b. (good.draft.joined k d b).size;
      }
