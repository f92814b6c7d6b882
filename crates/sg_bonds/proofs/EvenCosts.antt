-- Bounds of all bonds at once: costs are even, and what the law of weakened ground states says of them.
use Rattle.sg_bonds.proofs.Common.{◌≡◌, ◌≢◌, ◌⊎◌, inl, inr, ℕ, ◌+◌, ◌*◌, ◌<◌, ◌≤◌, ℤ, pos, negsuc, ◌-ℤ◌, ◌*ℤ◌, ◌≤ℤ◌, ◌<ℤ◌, List, length, set, sym, ◌∙◌, subst}
use Rattle.sg_bonds.proofs.Common.{arith, All, sum_by, unsigned_abs, by_lt_z, ints, get_or_default, sum_limit, Ising, bond_count, IsInstance, IsGroundState, weight}
use Rattle.sg_model.proofs.BrokenEnergy.{broken_weight, energy_from_broken}
use Rattle.sg_bonds.specs.Cost.{IsCost, IsRigid}
use Rattle.sg_bonds.specs.declared.bounds.Bound.{Bound}
use Rattle.sg_bonds.specs.Bounds.{AreBounds, BoundsCost, Decides, IsTighter, Narrows, bound_at, no_bound, risen, unbounded}
use Rattle.sg_bonds.specs.Weakened.{weakened}
use Rattle.sg_bonds.proofs.CostNumbers.{least_with_size}
use Rattle.sg_bonds.proofs.NarrowedBounds.{narrows_set}
use Rattle.sg_bonds.proofs.OneCost.{cost-one}
use Rattle.sg_bonds.proofs.OneEntry.{set_either}
use Rattle.sg_bonds.proofs.PathBounds.{cost_not_negative}
use Rattle.sg_bonds.proofs.SomeCost.{some_cost}
use Rattle.sg_bonds.proofs.WeakenedEnergy.{weakened_cost}

-- the second number is the first if that is 2 or more, and else 2
abbrev IsTwoOrMore : ℤ → ℤ → Type 0
IsTwoOrMore x y = ((x <ℤ pos 2) × (y ≡ pos 2)) ⊎ ((pos 2 ≤ℤ x) × (y ≡ x))

two_holds : (x y c : ℤ) → IsTwoOrMore x y → x ≤ℤ c → pos 2 ≤ℤ c → y ≤ℤ c
two_holds x y c which p q = grind (arith, ints, which, p, q)

two_tighter : (x y : ℤ) → IsTwoOrMore x y → x ≤ℤ y
two_tighter x y which = grind (arith, ints, which)

-- the second upper bound is the first, or the most where that says nothing
abbrev IsSomeUpper : ℤ → ℤ → ℤ → Type 0
IsSomeUpper most x y = ((x ≡ no_bound) × (y ≡ most)) ⊎ ((x ≢ no_bound) × (y ≡ x))

upper_holds : (most x y c : ℤ) → IsSomeUpper most x y → c ≤ℤ most → (x ≢ no_bound → c ≤ℤ x) → c ≤ℤ y
upper_holds most x y c (inl (none, is)) p q = rw is p
upper_holds most x y c (inr (has, is)) p q = rw is (q has)

upper_tighter : (most x y : ℤ) → IsSomeUpper most x y → x ≢ no_bound → (y ≢ no_bound) × (y ≤ℤ x)
upper_tighter most x y (inl (none, is)) some = absurd (some none)
upper_tighter most x y (inr (has, is)) some = (λ e. some (sym is ∙ e), omega (arith, ints))

module _ (inst : Ising) (good : IsInstance inst) where
  module _ (k : ℕ) (c : ℤ) (cost : IsCost inst k c) where
    -- each cost is even
    pub even_cost : (m : ℕ) × (c ≡ pos (m + m))
    even_cost =
        let like = cost.least_like.reached in
        let unlike = cost.least_unlike.reached in
        let far = energy_from_broken inst unlike.0 good unlike.1 in (
          unsigned_abs (pos (sum_by (broken_weight unlike.0) inst.bonds) -ℤ pos (sum_by (broken_weight like.0) inst.bonds)),
          omega (arith, ints, unlike.3, far, energy_from_broken inst like.0 good like.1, like.3, cost.apart),
        )

    -- and at most twice the sum of the sizes
    pub most_cost : c ≤ℤ pos (2 * weight inst)
    most_cost =
        let far = least_with_size inst good k (negsuc 0) cost.unlike cost.least_unlike in
        omega (arith, ints, far, least_with_size inst good k (pos 1) cost.like cost.least_like, cost.apart)

    -- so one above 0 is at least 2
    pub least_rigid : pos 0 <ℤ c → pos 2 ≤ℤ c
    least_rigid more = let (m, e) = even_cost in omega (arith, ints, e, more)

    -- the law of weakened ground states, for an even number
    pub weakened_even : (scale : ℕ) (amount : ℕ → ℕ) (s : List ℤ) → IsGroundState (weakened inst scale s amount) s → k < bond_count inst
        → (low : ℤ) → ((m : ℕ) → amount k ≤ scale * m → low ≤ℤ pos (2 * m)) → low ≤ℤ c
    weakened_even scale amount s ground inside low least =
        let (m, e) = even_cost in
        let spread : scale * (m + m) ≡ scale * m + scale * m = grind arith in
        let most = subst (λ x. pos (2 * amount k) ≤ℤ (pos scale *ℤ x)) e (weakened_cost inst good scale amount s ground k inside c cost) in
        let half : amount k ≤ scale * m = omega (arith, ints, most, spread) in
        omega (arith, ints, e, least m half)

  -- the lower bound of one bond rises
  module _ (first bounds : List Bound) (narrowed : Narrows inst first bounds) (k : ℕ) (inside : k < bond_count inst) (now : Bound) (low : ℤ)
      (least : AreBounds inst first → (c : ℤ) → IsCost inst k c → low ≤ℤ c) where
    pub narrows_raised : (now ≡ bound_at bounds k) ⊎ (((bound_at bounds k).low <ℤ low) × (now ≡ risen (bound_at bounds k) low))
        → Narrows inst first (set bounds k now)
    narrows_raised (inl same) =
        narrows_set inst first bounds narrowed k now inside (λ are. subst (BoundsCost inst k) (sym same) ((narrowed.bounds are).each k inside))
        (λ are. subst (IsTighter (bound_at bounds k)) (sym same) (record { low = omega (arith, ints); high = λ some. (some, omega (arith, ints)) }))
    narrows_raised (inr (more, raised)) =
        narrows_set inst first bounds narrowed k now inside
        (λ are. subst (BoundsCost inst k) (sym raised) (record { low = least are; high = ((narrowed.bounds are).each k inside).high }))
        (λ are. subst (IsTighter (bound_at bounds k)) (sym raised) (record { low = omega (arith, ints, more); high = λ some. (some, omega (arith, ints)) }))

  module _ (small : weight inst ≤ sum_limit) where
    -- bounds that decide their bonds do so when they are narrowed
    pub decides_kept : (before after : List Bound) → Narrows inst before after → AreBounds inst before → All Decides before → All Decides after
    decides_kept before after narrows are decided k d l =
        subst Decides (sym (get_or_default after k d unbounded l)) (record {
          some = (tight.high here.some).0;
          which = by_case here.which;
        })
      where
        inside : k < bond_count inst
        inside = omega (arith, l, narrows.count, are.count)

        here : Decides (bound_at before k)
        here = decided k unbounded (omega (arith, inside, are.count))

        tight : IsTighter (bound_at before k) (bound_at after k)
        tight = narrows.tighter are k inside

        bound : BoundsCost inst k (bound_at after k)
        bound = (narrows.bounds are).each k inside

        by_case : (pos 2 ≤ℤ (bound_at before k).low) ⊎ (((bound_at before k).low ≡ pos 0) × ((bound_at before k).high ≡ pos 0))
            → (pos 2 ≤ℤ (bound_at after k).low) ⊎ (((bound_at after k).low ≡ pos 0) × ((bound_at after k).high ≡ pos 0))
        by_case (inl more) = inl (omega (arith, ints, more, tight.low))
        by_case (inr (lo, up)) =
            let (c, cost) = some_cost inst good k inside small in
            let (some, less) = tight.high here.some in
            let least = bound.low c cost in
            let most = bound.high some c cost in
            inr (omega (arith, ints, lo, tight.low, least, most, less, up), omega (arith, ints, lo, tight.low, least, most, less, up))

    -- a bond that is not rigid costs 0
    pub free_cost : (k : ℕ) → k < bond_count inst → (IsRigid inst k → ⊥) → IsCost inst k (pos 0)
    free_cost k inside free =
        let (c, cost) = some_cost inst good k inside small in
        by_lt_z (pos 0) c (λ more. absurd (free (c, cost, more))) (λ none.
        let same : c ≡ pos 0 = omega (arith, ints, none, cost_not_negative inst k c cost) in subst (IsCost inst k) same cost)

  -- the bounds of one bond that is rigid, with a lower bound of at least 2, and an upper one
  module _ (first bounds : List Bound) (narrowed : Narrows inst first bounds) (k : ℕ) (inside : k < bond_count inst) (now : Bound) (rigid : IsRigid inst k)
      (low : IsTwoOrMore (bound_at bounds k).low now.low) (high : IsSomeUpper (pos (2 * weight inst)) (bound_at bounds k).high now.high) where
    rigid_least : (c : ℤ) → IsCost inst k c → pos 2 ≤ℤ c
    rigid_least c cost = least_rigid k c cost (omega (arith, ints, cost-one inst k rigid.0 c rigid.1 cost, rigid.2))

    pub narrows_rigid : Narrows inst first (set bounds k now)
    narrows_rigid =
        narrows_set inst first bounds narrowed k now inside
        (λ are. record {
          low = λ c cost. two_holds (bound_at bounds k).low now.low c low (((narrowed.bounds are).each k inside).low c cost) (rigid_least c cost);
          high = λ some c cost. upper_holds (pos (2 * weight inst)) (bound_at bounds k).high now.high c high (most_cost k c cost)
              (λ has. ((narrowed.bounds are).each k inside).high has c cost);
        })
        (λ are. record {
          low = two_tighter (bound_at bounds k).low now.low low;
          high = upper_tighter (pos (2 * weight inst)) (bound_at bounds k).high now.high high;
        })

-- one bond more that its bounds decide
pub decides_more : (bounds : List Bound) (k : ℕ) (now : Bound) → k < length bounds → ((i : ℕ) → i < k → Decides (bound_at bounds i)) → Decides now
    → (i : ℕ) → i < k + 1 → Decides (bound_at (set bounds k now) i)
decides_more bounds k now inside before here i l = set_either (λ _ b. Decides b) bounds now unbounded k i inside here (λ ne. before i (omega (arith, l, ne)))
