-- The cost of a bond, from the least energy with the product that a ground state does not have.
use Rattle.sg_bonds.proofs.Common.{◌≡◌, inl, inr, ℕ, ◌+◌, ◌*◌, ◌<◌, ◌≤◌, ◌^◌, ℤ, pos, negsuc, neg_ℤ, ◌+ℤ◌, ◌-ℤ◌, ◌*ℤ◌, List, [], ◌∷◌, ◌++◌, length, get_or}
use Rattle.sg_bonds.proofs.Common.{refl, sym, ◌∙◌, ap, ap₂, subst, arith, Some, to_z, of_z, w64, FitsSigned, slice_get, unsigned_abs, ints}
use Rattle.sg_bonds.proofs.Common.{fits_signed_from_abs, sum_limit, forced_limit, Bond, Ising, bond_at, bond_count, IsInstance, IsUpOrDown, IsGroundState, IsLeastEnergy, energy, product, weight}
use Rattle.std.proofs.lemmas.Int.{to_z-of_z}
use Rattle.std.proofs.lemmas.Option.{get_or_from_slice_get}
use Rattle.sg_model.specs.Changes.{with_coupling}
use Rattle.sg_model.proofs.EnergyBounds.{energy_size, least_of_ground_state}
use Rattle.sg_planar.proofs.OtherCouplings.{weight_coupled}
use Rattle.sg_bonds.specs.Cost.{IsCost, IsLeastWith}
use Rattle.sg_bonds.proofs.OneEntry.{push_each}
use Rattle.sg_bonds.proofs.ForcedMinimum.{coupling_size, forced_energy, forced_minimum, forced_product}

-- a unit leaves a size as it is
pub signed_size : (p x : ℤ) → IsUpOrDown p → unsigned_abs (p *ℤ x) ≡ unsigned_abs x
signed_size p x up = grind (arith, ints, up)

-- the sum of an instance at the limit in which one bond is forced
pub forced_sum : (inst : Ising) (k : ℕ) (p : ℤ) (w : ℕ) → k < bond_count inst → IsUpOrDown p → weight inst ≤ w
    → weight (with_coupling inst k (p *ℤ pos (weight inst + 1))) ≤ 2 * w + 1
forced_sum inst k p w inside up small =
    omega (arith, weight_coupled inst k (p *ℤ pos (weight inst + 1)) inside, signed_size p (pos (weight inst + 1)) up)

module _ (inst : Ising) (good : IsInstance inst) (k : ℕ) where
  -- the least energy with a product is no larger than the weight
  pub least_with_size : (p e : ℤ) → IsLeastWith inst k p e → unsigned_abs e ≤ weight inst
  least_with_size p e h = omega (arith, energy_size inst h.reached.0 good h.reached.1, ap unsigned_abs h.reached.3)

  -- a ground state has the least energy with its own product
  least_with_own : (s : List ℤ) (p : ℤ) → IsGroundState inst s → product s (bond_at inst k) ≡ p → IsLeastWith inst k p (energy inst s)
  least_with_own s p g e = record { reached = (s, g.assignment, e, refl); least = λ t h _. g.least t h }

  -- and the other least energy tells the cost
  pub cost_from_other : (s : List ℤ) (p e c : ℤ) → IsGroundState inst s → IsUpOrDown p → product s (bond_at inst k) ≡ neg_ℤ p
      → IsLeastWith inst k p e → c ≡ e -ℤ energy inst s → IsCost inst k c
  cost_from_other s p e c g (inl a) own other gain = record {
    like = e;
    unlike = energy inst s;
    least_like = subst (λ q. IsLeastWith inst k q e) a other;
    least_unlike = least_with_own s (negsuc 0) g (own ∙ ap neg_ℤ a);
    apart = omega (arith, ints, gain, other.reached.3, g.least other.reached.0 other.reached.1);
  }
  cost_from_other s p e c g (inr a) own other gain = record {
    like = energy inst s;
    unlike = e;
    least_like = least_with_own s (pos 1) g (own ∙ ap neg_ℤ a);
    least_unlike = subst (λ q. IsLeastWith inst k q e) a other;
    apart = omega (arith, ints, gain, other.reached.3, g.least other.reached.0 other.reached.1);
  }

-- one more cost
pub costs_more : (inst : Ising) (costs : List ℤ) (c : ℤ) (n : ℕ) → length costs ≡ n → ((k : ℕ) → k < n → IsCost inst k (get_or costs k (pos 0)))
    → IsCost inst n c → (k : ℕ) → k < n + 1 → IsCost inst k (get_or (costs ++ c ∷ []) k (pos 0))
costs_more inst costs c n long before here = push_each (IsCost inst) costs c (pos 0) n long before here

-- a number of 64 bits after its way through its bits
abbrev kept : ℤ → ℤ
kept x = to_z w64 (of_z w64 x)

-- a cast keeps a number within the bound
pub kept_small : (x : ℤ) (w : ℕ) → unsigned_abs x ≤ w → w < 2 ^ 63 → to_z w64 (of_z w64 x) ≡ x
kept_small x w l m = to_z-of_z w64 x (fits_signed_from_abs w64 x (omega arith))

-- and 1 and -1
pub kept_unit : (p : ℤ) → IsUpOrDown p → to_z w64 (of_z w64 p) ≡ p
kept_unit p up = kept_small p 1 (grind (arith, ints, up)) (omega arith)

-- bond k as it is read from the list of bonds
pub read_bond : (inst same : Ising) (bonds : List Bond) (k : ℕ) (b : Bond) → slice_get bonds k ≡ Some b → bonds ≡ same.bonds → same ≡ inst → bond_at inst k ≡ b
read_bond inst same bonds k b found list instance =
    ap (λ (i : Ising). bond_at i k) (sym instance)
    ∙ ap (λ (bs : List Bond). get_or bs k (record { u = 0; v = 0; j = pos 0 })) (sym list)
    ∙ get_or_from_slice_get bonds k b (record { u = 0; v = 0; j = pos 0 }) found

-- a solve with bond k forced to the product p, by the numbers of the code: the force f, the coupling z that it gives, the ground state s
-- with its energy e, and the part x of the coupling j in it
pub record IsForcedSolve (inst : Ising) (k : ℕ) (p f z e x j : ℤ) (forced : Ising) (s : List ℤ) : Type 0 where
  pub force : f ≡ pos (weight inst + 1)
  pub new : z ≡ kept p *ℤ kept f
  pub copy : forced ≡ with_coupling inst k (kept z)
  pub ground : IsGroundState forced s
  pub value : e ≡ energy forced s
  pub size : unsigned_abs e ≤ weight forced
  pub coupling : (bond_at inst k).j ≡ j
  pub own : x ≡ kept p *ℤ kept j

module _ (inst : Ising) (good : IsInstance inst) (k : ℕ) (inside : k < bond_count inst) (small : weight inst ≤ sum_limit) where
  -- a coupling of the bond fits 64 bits
  pub coupling_fits : (j : ℤ) → (bond_at inst k).j ≡ j → unsigned_abs (to_z w64 (of_z w64 j)) < 2 ^ 63
  coupling_fits j e =
      let size : unsigned_abs j ≤ weight inst = omega (arith, coupling_size inst good k inside, ap unsigned_abs e) in
      omega (arith, size, ap unsigned_abs (kept_small j (weight inst) size (omega arith)))

  module _ (p : ℤ) (up : IsUpOrDown p) (f z e x j : ℤ) (forced : Ising) (s : List ℤ) (solved : IsForcedSolve inst k p f z e x j forced s) where
    force_kept : kept f ≡ pos (weight inst + 1)
    force_kept = kept_small f (weight inst + 1) (omega (arith, ap unsigned_abs solved.force)) (omega arith) ∙ solved.force

    new_is : z ≡ p *ℤ pos (weight inst + 1)
    new_is = solved.new ∙ ap₂ (λ a b. a *ℤ b) (kept_unit p up) force_kept

    new_kept : kept z ≡ p *ℤ pos (weight inst + 1)
    new_kept = kept_small z (weight inst + 1) (omega (arith, ap unsigned_abs new_is, signed_size p (pos (weight inst + 1)) up)) (omega arith) ∙ new_is

    copy_is : forced ≡ with_coupling inst k (p *ℤ pos (weight inst + 1))
    copy_is = solved.copy ∙ ap (with_coupling inst k) new_kept

    energy_bound : unsigned_abs e ≤ forced_limit
    energy_bound = omega (arith, solved.size, ap weight copy_is, forced_sum inst k p sum_limit inside up small)

    own_is : x ≡ p *ℤ (bond_at inst k).j
    own_is =
        let bound : unsigned_abs j ≤ weight inst = omega (arith, coupling_size inst good k inside, ap unsigned_abs solved.coupling) in
        solved.own ∙ ap₂ (λ a b. a *ℤ b) (kept_unit p up) (kept_small j (weight inst) bound (omega arith) ∙ sym solved.coupling)

    own_bound : unsigned_abs x ≤ sum_limit
    own_bound = omega (arith, ap unsigned_abs own_is, signed_size p (bond_at inst k).j up, coupling_size inst good k inside)

    energy_kept : kept e ≡ e
    energy_kept = kept_small e forced_limit energy_bound (omega arith)

    own_kept : kept x ≡ x
    own_kept = kept_small x sum_limit own_bound (omega arith)

    inner_kept : kept (kept e +ℤ kept f) ≡ e +ℤ pos (weight inst + 1)
    inner_kept =
        ap kept (ap₂ (λ a b. a +ℤ b) energy_kept force_kept)
        ∙ kept_small (e +ℤ pos (weight inst + 1)) (forced_limit + (sum_limit + 1)) (omega (arith, ints, energy_bound, small)) (omega arith)

    outer : kept (kept e +ℤ kept f) -ℤ kept x ≡ (e +ℤ pos (weight inst + 1)) -ℤ (p *ℤ (bond_at inst k).j)
    outer = ap₂ (λ a b. a -ℤ b) inner_kept (own_kept ∙ own_is)

    -- the difference in the code fits 64 bits
    pub gap_fits : FitsSigned w64 (to_z w64 (of_z w64 (to_z w64 (of_z w64 e) +ℤ to_z w64 (of_z w64 f))) -ℤ to_z w64 (of_z w64 x))
    gap_fits = fits_signed_from_abs w64 (kept (kept e +ℤ kept f) -ℤ kept x) (omega (arith, ints, inner_kept, own_kept, energy_bound, own_bound, small))

    -- it is the least energy with this product
    pub least_found : IsLeastWith inst k p (to_z w64 (of_z w64 (to_z w64 (of_z w64 (to_z w64 (of_z w64 e) +ℤ to_z w64 (of_z w64 f))) -ℤ to_z w64 (of_z w64 x))))
    least_found =
        subst (IsLeastWith inst k p) (sym (to_z-of_z w64 (kept (kept e +ℤ kept f) -ℤ kept x) gap_fits ∙ outer))
        (forced_minimum inst good k inside p up (weight inst + 1) (omega arith) e
        (subst (λ i. IsLeastEnergy i e) copy_is (least_of_ground_state forced s e solved.ground solved.value)))

    -- the spins have the product, and the energy that was found
    pub product_found : product s (bond_at inst k) ≡ p
    product_found = forced_product inst good k inside p up (weight inst + 1) (omega arith) s (subst (λ i. IsGroundState i s) copy_is solved.ground)

    -- and the energy of the spins that were found
    pub energy_found : to_z w64 (of_z w64 (to_z w64 (of_z w64 (to_z w64 (of_z w64 e) +ℤ to_z w64 (of_z w64 f))) -ℤ to_z w64 (of_z w64 x))) ≡ energy inst s
    energy_found =
        to_z-of_z w64 (kept (kept e +ℤ kept f) -ℤ kept x) gap_fits ∙ outer
        ∙ ap (λ n. (n +ℤ pos (weight inst + 1)) -ℤ (p *ℤ (bond_at inst k).j)) (solved.value ∙ ap (λ i. energy i s) copy_is)
        ∙ sym (forced_energy inst good k inside p up (weight inst + 1) (omega arith) s product_found)

module _ (inst : Ising) (good : IsInstance inst) (k : ℕ) (small : weight inst ≤ sum_limit)
    (s : List ℤ) (q e l : ℤ) (ground : IsGroundState inst s) (up : IsUpOrDown q) (own : product s (bond_at inst k) ≡ neg_ℤ q)
    (other : IsLeastWith inst k (kept q) e) (value : l ≡ energy inst s) where
  other_bound : unsigned_abs e ≤ weight inst
  other_bound = least_with_size inst good k (kept q) e other

  ground_bound : unsigned_abs l ≤ weight inst
  ground_bound = omega (arith, energy_size inst s good ground.assignment, ap unsigned_abs value)

  both_kept : kept e -ℤ kept l ≡ e -ℤ l
  both_kept = ap₂ (λ a b. a -ℤ b) (kept_small e (weight inst) other_bound (omega arith)) (kept_small l (weight inst) ground_bound (omega arith))

  -- the difference of the two least energies fits 64 bits
  pub cost_fits : FitsSigned w64 (to_z w64 (of_z w64 e) -ℤ to_z w64 (of_z w64 l))
  cost_fits = fits_signed_from_abs w64 (kept e -ℤ kept l) (omega (arith, ints, both_kept, other_bound, ground_bound, small))

  -- it is the cost of the bond
  pub cost_found : IsCost inst k (to_z w64 (of_z w64 (to_z w64 (of_z w64 e) -ℤ to_z w64 (of_z w64 l))))
  cost_found =
      cost_from_other inst good k s q e (kept (kept e -ℤ kept l)) ground up own (subst (λ p. IsLeastWith inst k p e) (kept_unit q up) other)
      (to_z-of_z w64 (kept e -ℤ kept l) cost_fits ∙ both_kept ∙ ap (λ x. e -ℤ x) value)

  -- an assignment of that energy lies as far above the ground state as the bond costs
  pub above_found : (t : List ℤ) → e ≡ energy inst t → energy inst t ≡ energy inst s +ℤ to_z w64 (of_z w64 (to_z w64 (of_z w64 e) -ℤ to_z w64 (of_z w64 l)))
  above_found t same =
      let gap = to_z-of_z w64 (kept e -ℤ kept l) cost_fits ∙ both_kept in
      omega (arith, ints, gap, same, value)
