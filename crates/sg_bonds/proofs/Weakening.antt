-- Weakened instances as a solver takes them, and what their ground states tell.
use Rattle.sg_bonds.proofs.Common.{◌≡◌, ◌≢◌, ◌⊎◌, inl, inr, ℕ, ◌+◌, ◌-◌, ◌*◌, ◌^◌, ◌<◌, ◌≤◌, true, false, cond, eqb, ℤ, pos, neg_ℤ, ◌+ℤ◌, ◌*ℤ◌, ◌≤ℤ◌, ◌<ℤ◌}
use Rattle.sg_bonds.proofs.Common.{List, get_or, map, set, replicate, sym, ◌∙◌, ap, subst, arith, unsigned_abs, eq-eqb, ne_eqb, get_or-set_other}
use Rattle.sg_bonds.proofs.Common.{get_or-set_same, cases_Bool, cases_eq, by_lt_z, ints, get_or-replicate, length-map, length-replicate, forced_limit}
use Rattle.sg_bonds.proofs.Common.{sum_limit, Bond, Ising, bond_at, bond_count, IsInstance, IsAssignment, IsGroundState, energy, product, weight}
use Rattle.std.specs.List.{range_with_len}
use Rattle.std.proofs.Math.ListN.{get_or-map}
use Rattle.std.proofs.Math.Nat.{mul-le-mul_left}
use Rattle.std.proofs.lemmas.Bool.Decides.{Decides-int_eq}
use Rattle.std.proofs.lemmas.List.Sums.{get_or-le-sum_by}
use Rattle.sg_base.specs.Sums.{sum_below}
use Rattle.sg_base.proofs.ListLaws.{map-agree}
use Rattle.sg_base.proofs.SumLaws.{at-le-sum_below, sum_below-same, sum_below_pick}
use Rattle.sg_model.specs.Changes.{coupled_at, negated, opposite, recoupled, with_couplings}
use Rattle.sg_ground.specs.Allowance.{TablesExceed}
use Rattle.sg_ground.proofs.Allowed.{all_fit}
use Rattle.sg_tjoin.specs.Allowance.{IfTooLarge}
use Rattle.sg_tjoin.specs.declared.allowance.Unproved.{Unproved}
use Rattle.sg_tjoin.proofs.TableBounds.{IfTooLarge-weaker}
use Rattle.sg_bonds.specs.Cost.{IsRigid}
use Rattle.sg_bonds.specs.Weakened.{FitsWeakened, WeakenedTablesExceed, amount_at, turned_amount, turns, weakened, weakened_coupling}
use Rattle.sg_bonds.proofs.ForcedMinimum.{unit_product}
use Rattle.sg_bonds.proofs.RigidBounds.{free_turned}
use Rattle.sg_bonds.proofs.ToldBonds.{not_rigid}
use Rattle.sg_bonds.proofs.WeakenedEnergy.{none_turned, weakened_energy, weakened_rigid, weakened_size, weakened_weight}

abbrev no_bond : Bond
no_bond = record { u = 0; v = 0; j = pos 0 }

-- new couplings take no notice of the old
pub couplings_of_negated : (inst : Ising) (couplings : List ℤ) → with_couplings (negated inst) couplings ≡ with_couplings inst couplings
couplings_of_negated inst couplings =
    ap (λ (bonds : List Bond). record { n = inst.n; bonds = bonds; rotation = inst.rotation; seam = inst.seam })
    (ap (λ n. map (coupled_at (map opposite inst.bonds) couplings) (range_with_len 0 n)) (length-map inst.bonds opposite)
    ∙ map-agree (coupled_at (map opposite inst.bonds) couplings) (coupled_at inst.bonds couplings) (range_with_len 0 (bond_count inst)) at)
  where
    at : (k : ℕ) → coupled_at (map opposite inst.bonds) couplings k ≡ coupled_at inst.bonds couplings k
    at k = ap (λ (b : Bond). recoupled b (get_or couplings k (pos 0))) (get_or-map opposite inst.bonds k no_bond)

module _ (inst : Ising) (scale : ℕ) (amount : ℕ → ℕ) (fits : FitsWeakened inst scale amount) where
  -- each coupling fits
  pub coupling_fits : (k : ℕ) → k < bond_count inst → scale * unsigned_abs (bond_at inst k).j + amount k < 2 ^ 63
  coupling_fits k l =
      let own : unsigned_abs (bond_at inst k).j ≤ weight inst = get_or-le-sum_by (λ (b : Bond). unsigned_abs b.j) inst.bonds k no_bond l in
      let scaled : scale * unsigned_abs (bond_at inst k).j ≤ scale * weight inst = mul-le-mul_left scale own in
      omega (arith, scaled, at-le-sum_below amount k (bond_count inst) l, fits)

  pub coupling_size : (good : IsInstance inst) (s : List ℤ) → IsAssignment inst s → (k : ℕ) → k < bond_count inst
      → unsigned_abs (weakened_coupling scale s (bond_at inst k) (amount k)) < 2 ^ 63
  coupling_size good s h k l =
      omega (
        arith,
        coupling_fits k l,
        weakened_size scale (amount k) (bond_at inst k).j (product s (bond_at inst k)) (unit_product inst good k l s h),
      )

  -- and so do all together
  pub weaker_fits : (good : IsInstance inst) (s : List ℤ) → IsAssignment inst s → weight (weakened inst scale s amount) ≤ forced_limit
  weaker_fits good s h = omega (arith, fits, weakened_weight inst good scale s h amount)

module _ (inst : Ising) (scale : ℕ) (s : List ℤ) (first : IsAssignment inst s) (amount : ℕ → ℕ) (t : List ℤ)
    (ground : IsGroundState (weakened inst scale s amount) t) where
  -- with the least energy the old state is a ground state too
  pub least_there : energy (weakened inst scale s amount) s ≡ energy (weakened inst scale s amount) t → IsGroundState (weakened inst scale s amount) s
  least_there same = record {
    assignment = record { count = first.count; values = first.values };
    least = λ u h. subst (λ e. e ≤ℤ energy (weakened inst scale s amount) u) (sym same) (ground.least u h);
  }

  -- and else it has more
  pub other_less : (energy (weakened inst scale s amount) s ≡ energy (weakened inst scale s amount) t → ⊥)
      → energy (weakened inst scale s amount) t <ℤ energy (weakened inst scale s amount) s
  other_less differ = by_lt_z (energy (weakened inst scale s amount) t) (energy (weakened inst scale s amount) s) (λ less. less)
      (λ most. absurd (differ (omega (arith, ints, most, ground.least s (record { count = first.count; values = first.values })))))

-- one bond alone is weakened by 1
module _ (inst : Ising) (k : ℕ) (inside : k < bond_count inst) where
  abbrev alone : List ℕ
  alone = set (replicate (bond_count inst) 0) k 1

  alone_at : (i : ℕ) → i < bond_count inst → amount_at alone i ≡ cond (eqb k i) 1 0
  alone_at i l = grind (arith, cases_eq k i, get_or-set_same, get_or-set_other, get_or-replicate, length-replicate)

  pub alone_sum : sum_below (amount_at alone) (bond_count inst) ≡ 1
  alone_sum =
      sum_below-same (amount_at alone) (λ i. cond (eqb k i) 1 0) (bond_count inst) alone_at
      ∙ sum_below_pick 1 k (bond_count inst) inside

  pub alone_fits : weight inst ≤ sum_limit → FitsWeakened inst 2 (amount_at alone)
  alone_fits small = omega (arith, alone_sum, small)

  module _ (good : IsInstance inst) (s : List ℤ) (ground : IsGroundState inst s) (small : weight inst ≤ sum_limit) where
    -- if it still is a ground state, the bond is rigid
    pub alone_rigid : IsGroundState (weakened inst 2 s (amount_at alone)) s → IsRigid inst k
    alone_rigid still =
        weakened_rigid inst good 2 (amount_at alone) s still k inside
        (omega (
          arith,
          get_or-set_same {A = ℕ} (replicate {A = ℕ} (bond_count inst) 0) k 1 0
              (omega (arith, inside, length-replicate {A = ℕ} (bond_count inst) 0)),
        )) small

    -- and if another state has less energy, the bond is free
    pub alone_free : (t : List ℤ) → IsGroundState (weakened inst 2 s (amount_at alone)) t
        → energy (weakened inst 2 s (amount_at alone)) t <ℤ energy (weakened inst 2 s (amount_at alone)) s → IsRigid inst k → ⊥
    alone_free t other less rigid = by_turn (cases_Bool (turns s t (bond_at inst k)))
      where
        second : IsAssignment inst t
        second = record { count = other.assignment.count; values = other.assignment.values }

        by_case : (i : ℕ) → (k ≡ i) ⊎ (k ≢ i)
            → cond {A = ℕ} (turns s t (bond_at inst i)) (cond {A = ℕ} (eqb k i) 1 0) 0 ≡
            cond {A = ℕ} (eqb k i) (cond {A = ℕ} (turns s t (bond_at inst k)) 1 0) 0
        by_case i (inl e) = rw (eq-eqb k i e) (ap (λ j. cond {A = ℕ} (turns s t (bond_at inst j)) 1 0) (sym e))
        by_case i (inr ne) = rw (ne_eqb k i ne) (grind arith)

        turned : turned_amount inst s t (amount_at alone) ≡ cond {A = ℕ} (turns s t (bond_at inst k)) 1 0
        turned =
            sum_below-same (λ i. cond {A = ℕ} (turns s t (bond_at inst i)) (amount_at alone i) 0)
            (λ i. cond {A = ℕ} (eqb k i) (cond {A = ℕ} (turns s t (bond_at inst k)) 1 0) 0) (bond_count inst)
            (λ i l. ap (λ a. cond {A = ℕ} (turns s t (bond_at inst i)) a 0) (alone_at i l) ∙ by_case i (cases_eq k i))
            ∙ sum_below_pick (cond {A = ℕ} (turns s t (bond_at inst k)) 1 0) k (bond_count inst) inside

        none_there : turned_amount inst s s (amount_at alone) ≡ 0
        none_there = none_turned inst good 2 s ground.assignment (amount_at alone)

        old : energy (weakened inst 2 s (amount_at alone)) s +ℤ pos (2 * turned_amount inst s s (amount_at alone)) ≡ (pos 2 *ℤ energy inst s) +ℤ
            pos (sum_below (amount_at alone) (bond_count inst))
        old = weakened_energy inst good 2 s ground.assignment (amount_at alone) s ground.assignment

        new : energy (weakened inst 2 s (amount_at alone)) t +ℤ pos (2 * turned_amount inst s t (amount_at alone)) ≡ (pos 2 *ℤ energy inst t) +ℤ
            pos (sum_below (amount_at alone) (bond_count inst))
        new = weakened_energy inst good 2 s ground.assignment (amount_at alone) t second

        by_turn : (turns s t (bond_at inst k) ≡ true) ⊎ (turns s t (bond_at inst k) ≡ false) → ⊥
        by_turn (inl turn) =
            let once = turned ∙ ap (λ b. cond {A = ℕ} b 1 0) turn in
            let level : energy inst t ≡ energy inst s = omega (arith, ints, old, new, none_there, once, less, ground.least t second) in
            not_rigid inst k (pos 0) (free_turned inst good s ground k inside t second level
            ((Decides-int_eq (product t (bond_at inst k)) (neg_ℤ (product s (bond_at inst k)))).0 turn)) (omega (arith, ints)) rigid
        by_turn (inr not) =
            let none = turned ∙ ap (λ b. cond {A = ℕ} b 1 0) not in
            omega (arith, ints, old, new, none_there, none, less, ground.least t second)

-- tables that are too large, of a weakened instance
pub weaker_exceeds : (inst other : Ising) (scale : ℕ) (s : List ℤ) (amount : ℕ → ℕ) → other ≡ weakened inst scale s amount → (most : ℕ) (e : Unproved)
    → IfTooLarge (TablesExceed most other) e → IfTooLarge (WeakenedTablesExceed most inst) e
weaker_exceeds inst other scale s amount same most = IfTooLarge-weaker (λ h. inr (scale, s, amount, subst (TablesExceed most) same h))

-- all of them fit 2^64 bytes
pub weakened_fit : (inst : Ising) → WeakenedTablesExceed (2 ^ 64 - 1) inst → ⊥
weakened_fit inst (inl h) = all_fit inst h
weakened_fit inst (inr (scale, s, amount, h)) = all_fit (weakened inst scale s amount) h
