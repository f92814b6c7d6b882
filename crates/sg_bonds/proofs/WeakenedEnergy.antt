-- The law of weakened ground states: what is taken from the couplings bounds energies from below.
use Rattle.sg_bonds.proofs.Common.{◌≡◌, inl, inr, ℕ, zero, suc, ◌+◌, ◌*◌, ◌<◌, ◌≤◌, false, cond, ℤ, pos, negsuc, neg_ℤ, ◌+ℤ◌, ◌-ℤ◌, ◌*ℤ◌, ◌≤ℤ◌, ◌<ℤ◌, List}
use Rattle.sg_bonds.proofs.Common.{take, map, fold, refl, sym, ◌∙◌, ap, subst, arith, int_eq, unsigned_abs, take_all, by_lt_z, ints, unsigned_abs-mul}
use Rattle.sg_bonds.proofs.Common.{take_more, sum_limit, Bond, Ising, bond_at, bond_count, IsInstance, IsUpOrDown, IsAssignment, IsGroundState, energy, product, weight}
use Rattle.std.specs.List.{range_with_len}
use Rattle.std.proofs.Math.IntN.{*ℤ-zero, suc_ℤ-*ℤ, zero-*ℤ}
use Rattle.std.proofs.lemmas.Bool.Decides.{Decides-int_eq}
use Rattle.std.proofs.lemmas.List.FromFn.{get_or-map-range_with_len}
use Rattle.std.proofs.lemmas.List.Sums.{fold_push}
use Rattle.sg_base.specs.Sums.{sum_below}
use Rattle.sg_base.proofs.SumLaws.{at-le-sum_below, sum_below-add, sum_below-le, sum_below-zero, sum_by_is_sum_below}
use Rattle.sg_model.specs.Changes.{recoupled}
use Rattle.sg_model.proofs.Recoupled.{all_long, coupled_at_place}
use Rattle.sg_bonds.specs.Weakened.{turned_amount, turns, weakened, weakened_coupling}
use Rattle.sg_bonds.specs.Cost.{IsCost, IsRigid}
use Rattle.sg_bonds.proofs.ForcedMinimum.{unit_product}
use Rattle.sg_bonds.proofs.PathBounds.{turned_near}
use Rattle.sg_bonds.proofs.SomeCost.{some_cost}

abbrev no_bond : Bond
no_bond = record { u = 0; v = 0; j = pos 0 }

-- the sum of f over the numbers below n
abbrev pub total : (ℕ → ℤ) → ℕ → ℤ
total f zero = pos 0
total f (suc n) = total f n +ℤ f n

-- the energy as a sum over the numbers of the bonds
abbrev pub aligned_at : Ising → List ℤ → ℕ → ℤ
aligned_at inst s k = (bond_at inst k).j *ℤ product s (bond_at inst k)

fold_is_total : (inst : Ising) (s : List ℤ) (n : ℕ) → n ≤ bond_count inst
    → fold (λ total b. total +ℤ (b.j *ℤ product s b)) (pos 0) (take n inst.bonds) ≡ total (aligned_at inst s) n
fold_is_total inst s zero l = refl
fold_is_total inst s (suc n) l =
    let same : n + 1 ≡ suc n = omega arith in
    subst (λ i. fold (λ total b. total +ℤ (b.j *ℤ product s b)) (pos 0) (take i inst.bonds) ≡ total (aligned_at inst s) (suc n)) same
    (ap (fold (λ total b. total +ℤ (b.j *ℤ product s b)) (pos 0)) (take_more inst.bonds n no_bond (omega (arith, l)))
    ∙ fold_push (λ total b. total +ℤ (b.j *ℤ product s b)) (pos 0) (take n inst.bonds) (bond_at inst n)
    ∙ ap (λ x. x +ℤ aligned_at inst s n) (fold_is_total inst s n (omega (arith, l))))

pub energy_is_total : (inst : Ising) (s : List ℤ) → energy inst s ≡ neg_ℤ (total (aligned_at inst s) (bond_count inst))
energy_is_total inst s =
    ap (λ (bonds : List Bond). neg_ℤ (fold (λ total b. total +ℤ (b.j *ℤ product s b)) (pos 0) bonds))
    (sym (take_all (bond_count inst) inst.bonds (omega arith)))
    ∙ ap neg_ℤ (fold_is_total inst s (bond_count inst) (omega arith))

-- a scale goes over a sum, and over a sign
scale_sum : (m : ℕ) (a b : ℤ) → pos m *ℤ (a +ℤ b) ≡ (pos m *ℤ a) +ℤ (pos m *ℤ b)
scale_sum zero a b = omega (arith, ints, zero-*ℤ (a +ℤ b), zero-*ℤ a, zero-*ℤ b)
scale_sum (suc m) a b =
    omega (arith, ints, scale_sum m a b, suc_ℤ-*ℤ (pos m) (a +ℤ b), suc_ℤ-*ℤ (pos m) a, suc_ℤ-*ℤ (pos m) b)

scale_neg : (m : ℕ) (a : ℤ) → pos m *ℤ neg_ℤ a ≡ neg_ℤ (pos m *ℤ a)
scale_neg zero a = omega (arith, ints, zero-*ℤ (neg_ℤ a), zero-*ℤ a)
scale_neg (suc m) a = omega (arith, ints, scale_neg m a, suc_ℤ-*ℤ (pos m) (neg_ℤ a), suc_ℤ-*ℤ (pos m) a)

-- and keeps an order
scale_le : (m : ℕ) (a b : ℤ) → a ≤ℤ b → (pos m *ℤ a) ≤ℤ (pos m *ℤ b)
scale_le zero a b l = omega (arith, ints, zero-*ℤ a, zero-*ℤ b)
scale_le (suc m) a b l = omega (arith, ints, scale_le m a b l, suc_ℤ-*ℤ (pos m) a, suc_ℤ-*ℤ (pos m) b, l)

scale_lt : (m : ℕ) (a b : ℤ) → a <ℤ b → (pos (suc m) *ℤ a) <ℤ (pos (suc m) *ℤ b)
scale_lt m a b l = let most = scale_le m a b (omega (arith, ints, l)) in omega (arith, ints, most, suc_ℤ-*ℤ (pos m) a, suc_ℤ-*ℤ (pos m) b, l)

unscale_le : (m : ℕ) (a b : ℤ) → 1 ≤ m → (pos m *ℤ a) ≤ℤ (pos m *ℤ b) → a ≤ℤ b
unscale_le zero a b some l = absurd (omega (arith, some))
unscale_le (suc m) a b some l = by_lt_z b a (λ less. absurd (omega (arith, ints, scale_lt m b a less, l))) (λ most. most)

-- a scale goes past a unit
scale_unit : (m : ℕ) (j q : ℤ) → IsUpOrDown q → (pos m *ℤ j) *ℤ q ≡ pos m *ℤ (j *ℤ q)
scale_unit m j q (inl e) = let w : j *ℤ pos 1 ≡ j = omega (arith, ints) in rw (e, w) (omega (arith, ints))
scale_unit m j q (inr e) = let w : j *ℤ negsuc 0 ≡ neg_ℤ j = omega (arith, ints) in rw (e, w) (omega (arith, ints, scale_neg m j))

-- what a weakened bond gives: less its amount where the products agree, and more where they do not
weakened_term : (x : ℤ) (a : ℕ) (p q : ℤ) → IsUpOrDown p → IsUpOrDown q
    → (x -ℤ (pos a *ℤ p)) *ℤ q ≡ (x *ℤ q) +ℤ (pos (2 * cond (int_eq q (neg_ℤ p)) a 0) -ℤ pos a)
weakened_term x a p q (inl e) (inl f) = rw (e, f) (omega (arith, ints))
weakened_term x a p q (inl e) (inr f) = rw (e, f) (omega (arith, ints))
weakened_term x a p q (inr e) (inl f) = rw (e, f) (omega (arith, ints))
weakened_term x a p q (inr e) (inr f) = rw (e, f) (omega (arith, ints))

-- and how large its coupling is
pub weakened_size : (m a : ℕ) (j p : ℤ) → IsUpOrDown p → unsigned_abs ((pos m *ℤ j) -ℤ (pos a *ℤ p)) ≤ m * unsigned_abs j + a
weakened_size m a j p (inl e) = rw e (omega (arith, ints, unsigned_abs-mul (pos m) j))
weakened_size m a j p (inr e) = rw e (omega (arith, ints, unsigned_abs-mul (pos m) j))

sum_below-scale : (m : ℕ) (f : ℕ → ℕ) (n : ℕ) → sum_below (λ k. m * f k) n ≡ m * sum_below f n
sum_below-scale m f zero = omega arith
sum_below-scale m f (suc n) = grind (arith, sum_below-scale m f n)

module _ (inst : Ising) (good : IsInstance inst) (scale : ℕ) (s : List ℤ) (first : IsAssignment inst s) (amount : ℕ → ℕ) where
  abbrev weaker : Ising
  weaker = weakened inst scale s amount

  abbrev couplings : List ℤ
  couplings = map (λ k. weakened_coupling scale s (bond_at inst k) (amount k)) (range_with_len 0 (bond_count inst))

  -- weakened bond k
  weaker_at : (k : ℕ) → k < bond_count inst → bond_at weaker k ≡ recoupled (bond_at inst k) (weakened_coupling scale s (bond_at inst k) (amount k))
  weaker_at k l =
      coupled_at_place inst couplings k l
      ∙ ap (recoupled (bond_at inst k))
      (get_or-map-range_with_len (λ k. weakened_coupling scale s (bond_at inst k) (amount k)) 0 (bond_count inst) k k (pos 0) l (omega arith))

  -- the weakened couplings are bounded by the scaled sum and the amounts
  pub weakened_weight : weight weaker ≤ scale * weight inst + sum_below amount (bond_count inst)
  weakened_weight =
      let all = sum_by_is_sum_below (λ (b : Bond). unsigned_abs b.j) weaker.bonds no_bond
      ∙ ap (sum_below (λ k. unsigned_abs (bond_at weaker k).j)) (all_long inst couplings) in
      let most = sum_below-le (λ k. unsigned_abs (bond_at weaker k).j) (λ k. scale * unsigned_abs (bond_at inst k).j + amount k) (bond_count inst) size_at in
      let parts = sum_below-add (λ k. scale * unsigned_abs (bond_at inst k).j) amount (bond_count inst) in
      let scaled = sum_below-scale scale (λ k. unsigned_abs (bond_at inst k).j) (bond_count inst)
      ∙ ap (λ n. scale * n) (sym (sum_by_is_sum_below (λ (b : Bond). unsigned_abs b.j) inst.bonds no_bond)) in
      omega (arith, all, most, parts, scaled)
    where
      size_at : (k : ℕ) → k < bond_count inst → unsigned_abs (bond_at weaker k).j ≤ scale * unsigned_abs (bond_at inst k).j + amount k
      size_at k l =
          subst (λ (b : Bond). unsigned_abs b.j ≤ scale * unsigned_abs (bond_at inst k).j + amount k) (sym (weaker_at k l))
          (weakened_size scale (amount k) (bond_at inst k).j (product s (bond_at inst k)) (unit_product inst good k l s first))

  module _ (t : List ℤ) (second : IsAssignment inst t) where
    term_at : (k : ℕ) → k < bond_count inst → aligned_at weaker t k ≡ (pos scale *ℤ aligned_at inst t k) +ℤ
        (pos (2 * cond (turns s t (bond_at inst k)) (amount k) 0) -ℤ pos (amount k))
    term_at k l =
        ap (λ (b : Bond). b.j *ℤ product t b) (weaker_at k l)
        ∙ weakened_term (pos scale *ℤ (bond_at inst k).j) (amount k) (product s (bond_at inst k)) (product t (bond_at inst k))
        (unit_product inst good k l s first) (unit_product inst good k l t second)
        ∙ ap (λ x. x +ℤ (pos (2 * cond (turns s t (bond_at inst k)) (amount k) 0) -ℤ pos (amount k)))
        (scale_unit scale (bond_at inst k).j (product t (bond_at inst k)) (unit_product inst good k l t second))

    total_at : (n : ℕ) → n ≤ bond_count inst → total (aligned_at weaker t) n ≡ (pos scale *ℤ total (aligned_at inst t) n) +ℤ
        (pos (2 * sum_below (λ k. cond (turns s t (bond_at inst k)) (amount k) 0) n) -ℤ pos (sum_below amount n))
    total_at zero l = omega (arith, ints, *ℤ-zero (pos scale))
    total_at (suc n) l =
        let scaled = scale_sum scale (total (aligned_at inst t) n) (aligned_at inst t n) in
        omega (arith, ints, total_at n (omega (arith, l)), term_at n (omega (arith, l)), scaled)

    -- the energy where the couplings are weakened
    pub weakened_energy : energy weaker t +ℤ pos (2 * turned_amount inst s t amount) ≡ (pos scale *ℤ energy inst t) +ℤ pos (sum_below amount (bond_count inst))
    weakened_energy =
        let own = energy_is_total weaker t ∙ ap (λ n. neg_ℤ (total (aligned_at weaker t) n)) (all_long inst couplings) in
        let scaled = ap (λ x. pos scale *ℤ x) (energy_is_total inst t) ∙ scale_neg scale (total (aligned_at inst t) (bond_count inst)) in
        omega (arith, ints, own, scaled, total_at (bond_count inst) (omega arith))

  pub none_turned : turned_amount inst s s amount ≡ 0
  none_turned = sum_below-zero (λ k. cond (turns s s (bond_at inst k)) (amount k) 0) (bond_count inst)
      (λ k l. ap (λ b. cond b (amount k) 0) (not_turned (product s (bond_at inst k)) (unit_product inst good k l s first)))
    where
      not_turned : (p : ℤ) → IsUpOrDown p → int_eq p (neg_ℤ p) ≡ false
      not_turned p up = grind (arith, ints, up)

module _ (inst : Ising) (good : IsInstance inst) (scale : ℕ) (amount : ℕ → ℕ) (s : List ℤ) (ground : IsGroundState (weakened inst scale s amount) s) where
  own : IsAssignment inst s
  own = record { count = ground.assignment.count; values = ground.assignment.values }

  -- times the scale, an assignment lies at least twice the amounts that it turns above the state
  pub weakened_bound : (t : List ℤ) → IsAssignment inst t
      → ((pos scale *ℤ energy inst s) +ℤ pos (2 * turned_amount inst s t amount)) ≤ℤ (pos scale *ℤ energy inst t)
  weakened_bound t h =
      let own_energy = weakened_energy inst good scale s own amount s own in
      let other_energy = weakened_energy inst good scale s own amount t h in
      let least = ground.least t (record { count = h.count; values = h.values }) in
      omega (arith, ints, own_energy, other_energy, least, none_turned inst good scale s own amount)

  -- so the state is a ground state of the instance as it was
  pub weakened_ground_state : 1 ≤ scale → IsGroundState inst s
  weakened_ground_state some = record {
    assignment = own;
    least = λ t h. unscale_le scale (energy inst s) (energy inst t) some (omega (arith, ints, weakened_bound t h));
  }

  module _ (k : ℕ) (inside : k < bond_count inst) where
    -- one that turns bond k lies at least twice its amount above
    pub turned_above : (t : List ℤ) → IsAssignment inst t → product t (bond_at inst k) ≡ neg_ℤ (product s (bond_at inst k))
        → ((pos scale *ℤ energy inst s) +ℤ pos (2 * amount k)) ≤ℤ (pos scale *ℤ energy inst t)
    turned_above t h turned =
        let here = ap (λ b. cond b (amount k) 0) ((Decides-int_eq (product t (bond_at inst k)) (neg_ℤ (product s (bond_at inst k)))).1 turned) in
        let most = at-le-sum_below (λ i. cond (turns s t (bond_at inst i)) (amount i) 0) k (bond_count inst) inside in
        omega (arith, ints, here, most, weakened_bound t h)

    -- and the bond costs so much
    pub weakened_cost : (c : ℤ) → IsCost inst k c → pos (2 * amount k) ≤ℤ (pos scale *ℤ c)
    weakened_cost c cost =
        let (t, h, turned, near) = turned_near inst s k c cost own (unit_product inst good k inside s own) in
        let scaled = scale_le scale (energy inst t) (energy inst s +ℤ c) near in
        omega (arith, ints, turned_above t h turned, scaled, scale_sum scale (energy inst s) c)

    -- so a bond that is weakened is rigid
    pub weakened_rigid : 1 ≤ amount k → weight inst ≤ sum_limit → IsRigid inst k
    weakened_rigid some small =
        let (c, cost) = some_cost inst good k inside small in
        let most = weakened_cost c cost in
        (c, cost, by_lt_z (pos 0) c (λ more. more) (λ none. absurd (omega (arith, ints, most, some, scale_le scale c (pos 0) none, *ℤ-zero (pos scale)))))
