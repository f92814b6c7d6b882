-- Bounds that are narrowed: what holds of one list of bounds holds of a tighter one, and what a state or a cost adds to them.
use Rattle.sg_bonds.proofs.Common.{All, ◌^◌, ◌-◌, ◌≡◌, ◌≢◌, ◌⊎◌, inl, inr, ℕ, ◌+◌, ◌<◌, Bool, true, ℤ, pos, neg_ℤ, ◌+ℤ◌, ◌≤ℤ◌, ◌<ℤ◌, List, length, get_or, map}
use Rattle.sg_bonds.proofs.Common.{refl, sym, ◌∙◌, subst, arith, set, cases_lt, ints, get_or-map, get_or_default, get_or-set_same, length-map, length-set}
use Rattle.sg_bonds.proofs.Common.{Ising, bond_at, bond_count, IsInstance, IsAssignment, IsGroundState, energy, product}
use Rattle.sg_model.specs.Changes.{with_coupling}
use Rattle.sg_ground.proofs.Allowed.{all_fit}
use Rattle.sg_bonds.specs.Cost.{AreCosts, IsCost}
use Rattle.sg_bonds.specs.declared.bounds.Bound.{Bound}
use Rattle.sg_bonds.specs.Bounds.{ForcedTablesExceed, AreBounds, AreKnown, BoundsCost, IsKnown, IsTighter, Narrows, bound_at, lowered, no_bound, unbounded}
use Rattle.sg_bonds.proofs.ForcedMinimum.{unit_product}
use Rattle.sg_bonds.proofs.OneCost.{cost-one}
use Rattle.sg_bonds.proofs.OneEntry.{set_either}
use Rattle.sg_bonds.proofs.PathBounds.{cost_not_negative, not_none, turned_costs}

-- both bounds are this number
abbrev pub just : ℤ → Bound
just c = record { low = c; high = c }

level : (x y : ℤ) → x ≤ℤ y → y ≤ℤ x → x ≡ y
level x y p q = omega (arith, ints)

-- a bound is as tight as itself
tight_self : (b : Bound) → IsTighter b b
tight_self b = record { low = omega (arith, ints); high = λ some. (some, omega (arith, ints)) }

tight_through : (a b c : Bound) → IsTighter a b → IsTighter b c → IsTighter a c
tight_through a b c p q = record {
  low = omega (arith, ints, p.low, q.low);
  high = λ some. (let (other, less) = p.high some in let (last, least) = q.high other in (last, omega (arith, ints, less, least)));
}

module _ (inst : Ising) where
  pub narrows_self : (bounds : List Bound) → Narrows inst bounds bounds
  narrows_self bounds = record { count = refl; bounds = λ are. are; tighter = λ are k l. tight_self (bound_at bounds k) }

  pub narrows_through : (a b c : List Bound) → Narrows inst a b → Narrows inst b c → Narrows inst a c
  narrows_through a b c p q = record {
    count = q.count ∙ p.count;
    bounds = λ are. q.bounds (p.bounds are);
    tighter = λ are k l. tight_through (bound_at a k) (bound_at b k) (bound_at c k) (p.tighter are k l) (q.tighter (p.bounds are) k l);
  }

  -- one bound more that changes
  module _ (first bounds : List Bound) (narrowed : Narrows inst first bounds) (k : ℕ) (now : Bound) (inside : k < bond_count inst) where
    same_there : AreBounds inst first → bound_at (set bounds k now) k ≡ now
    same_there are = get_or-set_same bounds k now unbounded (omega (arith, inside, (narrowed.bounds are).count))

    pub narrows_set : (AreBounds inst first → BoundsCost inst k now) → (AreBounds inst first → IsTighter (bound_at bounds k) now)
        → Narrows inst first (set bounds k now)
    narrows_set bound tight = record {
      count = length-set bounds k now ∙ narrowed.count;
      bounds = λ are. record {
        count = length-set bounds k now ∙ (narrowed.bounds are).count;
        each = λ i l. set_either (BoundsCost inst) bounds now unbounded k i (omega (arith, inside, (narrowed.bounds are).count)) (bound are)
            (λ _. (narrowed.bounds are).each i l);
      };
      tighter = λ are i l.
          tight_through (bound_at first i) (bound_at bounds i) (bound_at (set bounds k now) i) (narrowed.tighter are i l)
          (set_either (λ i b. IsTighter (bound_at bounds i) b) bounds now unbounded k i (omega (arith, inside, (narrowed.bounds are).count)) (tight are)
          (λ _. tight_self (bound_at bounds i)));
    }

    -- the cost itself is as tight as can be
    module _ (c : ℤ) (cost : AreBounds inst first → IsCost inst k c) (is : now ≡ just c) where
      pub narrows_cost : Narrows inst first (set bounds k now)
      narrows_cost = narrows_set (λ are. subst (BoundsCost inst k) (sym is) (record {
        low = λ d other. omega (arith, ints, cost-one inst k c d (cost are) other);
        high = λ some d other. omega (arith, ints, cost-one inst k c d (cost are) other);
      })) (λ are. subst (IsTighter (bound_at bounds k)) (sym is) (record {
        low = ((narrowed.bounds are).each k inside).low c (cost are);
        high = λ some. (not_none c (cost_not_negative inst k c (cost are)), ((narrowed.bounds are).each k inside).high some c (cost are));
      }))

      pub known_set : AreBounds inst first → IsKnown inst k (bound_at (set bounds k now) k)
      known_set are = subst (IsKnown inst k) (sym (same_there are ∙ is)) (record { low = cost are; high = cost are })

  -- what is known stays known
  pub known_kept : (k : ℕ) (b now : Bound) → IsKnown inst k b → IsTighter b now → BoundsCost inst k now → IsKnown inst k now
  known_kept k b now known tight bound =
      let (some, less) = tight.high (not_none b.high (cost_not_negative inst k b.high known.high)) in
      record {
        low = subst (IsCost inst k) (level b.low now.low tight.low (bound.low b.low known.low)) known.low;
        high = subst (IsCost inst k) (level b.high now.high (bound.high some b.high known.high) less) known.high;
      }

  -- one asked bond more whose cost is known
  pub known_more : (first bounds now : List Bound) (asked : List ℕ) (n : ℕ) → n < length asked → All (λ k. k < bond_count inst) asked
      → Narrows inst first bounds → Narrows inst bounds now
      → (AreBounds inst first → (i : ℕ) → i < n → IsKnown inst (get_or asked i 0) (bound_at bounds (get_or asked i 0)))
      → (AreBounds inst bounds → IsKnown inst (get_or asked n 0) (bound_at now (get_or asked n 0)))
      → AreBounds inst first → (i : ℕ) → i < n + 1 → IsKnown inst (get_or asked i 0) (bound_at now (get_or asked i 0))
  known_more first bounds now asked n inside below p q before here are i l = elim (cases_lt i n) [
    | inl earlier ↦
        let k : ℕ = get_or asked i 0 in
        let held : AreBounds inst bounds = p.bounds are in
        let low : k < bond_count inst = below i 0 (omega (arith, earlier, inside)) in
        known_kept k (bound_at bounds k) (bound_at now k) (before are i earlier) (q.tighter held k low) ((q.bounds held).each k low)
    | inr past ↦
        let same : n ≡ i = omega (arith, past, l) in
        subst (λ j. IsKnown inst (get_or asked j 0) (bound_at now (get_or asked j 0))) same (here (p.bounds are))
  ]

  -- an assignment that flips bond k lies this far above a ground state
  module _ (good : IsInstance inst) (s : List ℤ) (ground : IsGroundState inst s) (t : List ℤ) (other : IsAssignment inst t) (cost : ℤ)
      (above : energy inst t ≡ energy inst s +ℤ cost) (first bounds : List Bound) (narrowed : Narrows inst first bounds) (k : ℕ)
      (inside : k < bond_count inst) (now : Bound) (turns : Bool)
      (turned : turns ≡ true → product t (bond_at inst k) ≡ neg_ℤ (product s (bond_at inst k)))
      (noted : (now ≡ bound_at bounds k) ⊎ ((turns ≡ true) × (((bound_at bounds k).high ≡ no_bound) ⊎ (cost <ℤ (bound_at bounds k).high))
      × (now ≡ lowered (bound_at bounds k) cost))) where
    no_more : turns ≡ true → (c : ℤ) → IsCost inst k c → c ≤ℤ cost
    no_more yes_turned c is =
        omega (arith, ints, above, turned_costs inst good s ground k c t is (unit_product inst good k inside s ground.assignment) other (turned yes_turned))

    some_above : pos 0 ≤ℤ cost
    some_above = omega (arith, ints, ground.least t other, above)

    pub narrows_noted : Narrows inst first (set bounds k now)
    narrows_noted = narrows_set first bounds narrowed k now inside (λ are. bound are noted) (λ are. tight noted)
      where
        bound : AreBounds inst first → (now ≡ bound_at bounds k) ⊎ ((turns ≡ true)
            × (((bound_at bounds k).high ≡ no_bound) ⊎ (cost <ℤ (bound_at bounds k).high)) × (now ≡ lowered (bound_at bounds k) cost)) → BoundsCost inst k now
        bound are (inl same) = subst (BoundsCost inst k) (sym same) ((narrowed.bounds are).each k inside)
        bound are (inr (yes_turned, less, is)) = subst (BoundsCost inst k) (sym is) (record {
          low = ((narrowed.bounds are).each k inside).low;
          high = λ some c own_cost. no_more yes_turned c own_cost;
        })

        fits : (x : ℤ) → (x ≡ no_bound) ⊎ (cost <ℤ x) → x ≢ no_bound → cost ≤ℤ x
        fits x (inl none) some = absurd (some none)
        fits x (inr less) some = omega (arith, ints)

        tight : (now ≡ bound_at bounds k) ⊎ ((turns ≡ true) × (((bound_at bounds k).high ≡ no_bound) ⊎ (cost <ℤ (bound_at bounds k).high))
            × (now ≡ lowered (bound_at bounds k) cost)) → IsTighter (bound_at bounds k) now
        tight (inl same) = subst (IsTighter (bound_at bounds k)) (sym same) (tight_self (bound_at bounds k))
        tight (inr (yes_turned, less, is)) = subst (IsTighter (bound_at bounds k)) (sym is) (record {
          low = omega (arith, ints);
          high = λ some. (not_none cost some_above, fits (bound_at bounds k).high less some);
        })

  -- all tables fit 2^64 bytes
  pub forced_fit : ForcedTablesExceed (2 ^ 64 - 1) inst → ⊥
  forced_fit (inl h) = all_fit inst h
  forced_fit (inr (k, j, h)) = all_fit (with_coupling inst k j) h

  -- if the costs of all bonds are known, the lower bounds are the costs
  pub costs_known : (bounds : List Bound) → length bounds ≡ bond_count inst → ((k : ℕ) → k < bond_count inst → IsKnown inst k (bound_at bounds k))
      → AreCosts inst (map (λ b. b.low) bounds)
  costs_known bounds long known = record {
    count = length-map bounds (λ (b : Bound). b.low) ∙ long;
    each = λ k l. subst (IsCost inst k) (sym (get_or-map (λ (b : Bound). b.low) bounds k unbounded (pos 0) (omega (arith, l, long)))) (known k l).low;
  }

  -- a list of the numbers of all bonds
  module _ (asked : List ℕ) (long : length asked ≡ bond_count inst) (each : (k : ℕ) → k < bond_count inst → get_or asked k 0 ≡ k) where
    pub all_below : All (λ k. k < bond_count inst) asked
    all_below i d l =
        let inside : i < bond_count inst = omega (arith, l, long) in
        let same : get_or asked i d ≡ i = get_or_default asked i d 0 l ∙ each i inside in
        omega (arith, same, inside)

    pub costs_of_all : (bounds : List Bound) → length bounds ≡ bond_count inst → AreKnown inst bounds asked → AreCosts inst (map (λ b. b.low) bounds)
    costs_of_all bounds count known = costs_known bounds count (λ k l.
        subst (λ i. IsKnown inst i (bound_at bounds i)) (each k l) (known k 0 (omega (arith, l, long))))
