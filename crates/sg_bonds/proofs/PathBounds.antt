-- Bounds of costs: an assignment that turns a bond turns some bond of each path that joins its ends, so the bond costs at least as
-- much as the cheapest bond of the path; and an assignment that turns it bounds its cost from above.
use Rattle.sg_bonds.proofs.Common.{◌≡◌, ◌≢◌, ◌⊎◌, inl, inr, ℕ, ◌+◌, ◌<◌, ◌≤◌, Bool, false, ℤ, pos, negsuc, neg_ℤ, ◌+ℤ◌, ◌≤ℤ◌, List, sym, ◌∙◌, ap, subst, arith}
use Rattle.sg_bonds.proofs.Common.{length, [], ◌∷◌, ◌++◌, ints, sum_limit, Ising, bond_at, bond_count, IsInstance, IsUpOrDown, IsAssignment, IsGroundState}
use Rattle.sg_bonds.proofs.Common.{energy, product, weight, Reached, has}
use Rattle.sg_bonds.specs.Cost.{IsCost, IsLeastWith}
use Rattle.sg_bonds.specs.declared.bounds.Bound.{Bound}
use Rattle.sg_bonds.specs.Bounds.{AreBounds, IsMet, bound_at, costs_at_least, no_bound}
use Rattle.sg_bonds.proofs.Agreement.{Turns, agree_or_turn}
use Rattle.sg_bonds.proofs.ForcedMinimum.{unit_product}
use Rattle.sg_bonds.proofs.OneCost.{walk-kept}
use Rattle.sg_bonds.proofs.OneEntry.{push_each}
use Rattle.sg_bonds.proofs.SomeCost.{some_cost}

-- no cost is below 0
pub cost_not_negative : (inst : Ising) (k : ℕ) (c : ℤ) → IsCost inst k c → pos 0 ≤ℤ c
cost_not_negative inst k c cost = omega (arith, ints, cost.apart)

-- and so none is read as no bound
pub not_none : (x : ℤ) → pos 0 ≤ℤ x → x ≢ no_bound
not_none x some e = omega (arith, ints)

-- with a bond turned, some assignment lies no more than its cost above any other
pub turned_near : (inst : Ising) (s : List ℤ) (k : ℕ) (c : ℤ) → IsCost inst k c → IsAssignment inst s → IsUpOrDown (product s (bond_at inst k))
    → (t : List ℤ) × IsAssignment inst t × (product t (bond_at inst k) ≡ neg_ℤ (product s (bond_at inst k))) × (energy inst t ≤ℤ (energy inst s +ℤ c))
turned_near inst s k c cost h (inl up) =
    let (t, other, down, level) = cost.least_unlike.reached in
    (t, other, down ∙ sym (ap neg_ℤ up), omega (arith, ints, level, cost.apart, cost.least_like.least s h up))
turned_near inst s k c cost h (inr down) =
    let (t, other, up, level) = cost.least_like.reached in
    (t, other, up ∙ sym (ap neg_ℤ down), omega (arith, ints, level, cost.apart, cost.least_unlike.least s h down))

module _ (inst : Ising) (good : IsInstance inst) (s : List ℤ) (ground : IsGroundState inst s) where
  lowest : (k : ℕ) (p e : ℤ) → IsLeastWith inst k p e → energy inst s ≤ℤ e
  lowest k p e h = subst (λ x. energy inst s ≤ℤ x) h.reached.3 (ground.least h.reached.0 h.reached.1)

  -- an assignment that turns a bond lies at least its cost above the ground state
  pub turned_costs : (k : ℕ) (c : ℤ) (t : List ℤ) → IsCost inst k c → IsUpOrDown (product s (bond_at inst k)) → IsAssignment inst t
      → product t (bond_at inst k) ≡ neg_ℤ (product s (bond_at inst k)) → (energy inst s +ℤ c) ≤ℤ energy inst t
  turned_costs k c t cost (inl up) h turn =
      let low = lowest k (pos 1) cost.like cost.least_like in
      let far = lowest k (negsuc 0) cost.unlike cost.least_unlike in
      omega (arith, ints, low, far, cost.apart, cost.least_like.least s ground.assignment up, cost.least_unlike.least t h (turn ∙ ap neg_ℤ up))
  turned_costs k c t cost (inr down) h turn =
      let low = lowest k (negsuc 0) cost.unlike cost.least_unlike in
      let far = lowest k (pos 1) cost.like cost.least_like in
      omega (arith, ints, low, far, cost.apart, cost.least_unlike.least s ground.assignment down, cost.least_like.least t h (turn ∙ ap neg_ℤ down))

  module _ (small : weight inst ≤ sum_limit) (bounds : List Bound) (are : AreBounds inst bounds) where
    -- a bond of the set of those that cost so much, turned
    set_bounds : (least : ℤ) (t : List ℤ) → IsAssignment inst t → Turns inst (costs_at_least bounds least) s t → (energy inst s +ℤ least) ≤ℤ energy inst t
    set_bounds least t h u =
        let (c, cost) = some_cost inst good u.bond u.below small in
        let far = turned_costs u.bond c t cost (unit_product inst good u.bond u.below s ground.assignment) h u.turned in
        omega (arith, ints, far, u.in_set, (are.each u.bond u.below).low c cost)

    -- an assignment that turns a bond turns one of each path between its ends
    path_bounds : (k : ℕ) → k < bond_count inst → (least : ℤ) → Reached inst (costs_at_least bounds least) (bond_at inst k).u (bond_at inst k).v
        → (t : List ℤ) → IsAssignment inst t → product t (bond_at inst k) ≡ neg_ℤ (product s (bond_at inst k)) → (energy inst s +ℤ least) ≤ℤ energy inst t
    path_bounds k inside least r t h turn = elim (agree_or_turn inst good s t ground.assignment h (costs_at_least bounds least) r.0
        (bond_at inst k).u (bond_at inst k).v r.1) [
          | inl same ↦ absurd (grind (arith, ints, unit_product inst good k inside s ground.assignment, same, turn))
          | inr u ↦ set_bounds least t h u
        ]

    -- an upper bound that is met is a lower one
    met_least : (k : ℕ) → k < bond_count inst → (high : ℤ) → (high ≤ℤ pos 0) ⊎ ((high ≤ℤ (bound_at bounds k).low)
        ⊎ Reached inst (costs_at_least bounds high) (bond_at inst k).u (bond_at inst k).v) → (c : ℤ) → IsCost inst k c → high ≤ℤ c
    met_least k inside high (inl none) c cost = omega (arith, ints, none, cost_not_negative inst k c cost)
    met_least k inside high (inr (inl own)) c cost = omega (arith, ints, own, (are.each k inside).low c cost)
    met_least k inside high (inr (inr r)) c cost =
        let (t, h, turned, near) = turned_near inst s k c cost ground.assignment (unit_product inst good k inside s ground.assignment) in
        omega (arith, ints, near, path_bounds k inside high r t h turned)

    -- and so it is the cost
    pub met_cost : (k : ℕ) → k < bond_count inst → IsMet inst bounds k → IsCost inst k (bound_at bounds k).high
    met_cost k inside met =
        let (c, cost) = some_cost inst good k inside small in
        let most = (are.each k inside).high (not_none (bound_at bounds k).high met.some) c cost in
        let least = met_least k inside (bound_at bounds k).high met.least c cost in
        let same : c ≡ (bound_at bounds k).high = omega (arith, ints, most, least) in
        subst (IsCost inst k) same cost

-- an upper bound is met by a path of bonds that cost at least so much
pub met_by_path : (inst : Ising) (bounds : List Bound) (k : ℕ) (b : Bound) → b ≡ bound_at bounds k → (set : ℕ → Bool)
    → ((i : ℕ) → i < bond_count inst → set i ≡ costs_at_least bounds b.high i) → pos 0 ≤ℤ b.high
    → Reached inst set (bond_at inst k).u (bond_at inst k).v → IsMet inst bounds k
met_by_path inst bounds k b same set each some r =
    let path : Reached inst (costs_at_least bounds b.high) (bond_at inst k).u (bond_at inst k).v =
    (r.0, walk-kept inst set (costs_at_least bounds b.high) (λ i l h. sym (each i l) ∙ h) r.0 (bond_at inst k).u (bond_at inst k).v r.1) in
    record {
      some = subst (λ (x : Bound). pos 0 ≤ℤ x.high) same some;
      least = inr (inr (subst (λ (x : Bound). Reached inst (costs_at_least bounds x.high) (bond_at inst k).u (bond_at inst k).v) same path));
    }

-- one mark more of those of the bonds that cost at least so much
pub marks_more : (bounds : List Bound) (least : ℤ) (set : List Bool) (now : Bool) (n : ℕ) → length set ≡ n
    → ((k : ℕ) → k < n → has set k ≡ costs_at_least bounds least k) → now ≡ costs_at_least bounds least n
    → (k : ℕ) → k < n + 1 → has (set ++ now ∷ []) k ≡ costs_at_least bounds least k
marks_more bounds least set now n long before here = push_each (λ k m. m ≡ costs_at_least bounds least k) set now false n long before here
