-- Energies where one coupling is moved, and where its two products change places.
use Rattle.std.proofs.Common.{◌≡◌, inl, inr, ℕ, ◌+◌, ◌*◌, ◌<◌, ◌≤◌, ◌^◌, ℤ, pos, negsuc, ◌+ℤ◌, ◌-ℤ◌, ◌*ℤ◌, ◌≤ℤ◌, ◌<ℤ◌, List, [], ◌∷◌, ◌++◌, length, get_or, sum_by, sym, ◌∙◌, ap, ap₂, subst, arith, to_z, of_z, w64}
use Rattle.std.specs.Prelude.{FitsSigned, unsigned_abs}
use Rattle.std.proofs.lemmas.Int.{ints, to_z-of_z}
use Rattle.std.proofs.lemmas.List.{get_or-set_same, get_or_default, same_lists}
use Rattle.sg_model.specs.declared.bond.Bond.{Bond}
use Rattle.sg_model.specs.Ising.{Ising, bond_at, bond_count}
use Rattle.sg_model.specs.WellFormed.{IsInstance}
use Rattle.sg_model.specs.Spins.{IsUpOrDown, IsAssignment}
use Rattle.sg_model.specs.Energy.{IsGroundState, energy, product, weight}
use Rattle.sg_model.specs.Changes.{recoupled, with_coupling}
use Rattle.sg_model.proofs.BrokenEnergy.{broken_weight, energy_from_broken}
use Rattle.sg_model.proofs.CoupledEnergy.{energy_coupled}
use Rattle.sg_bonds.specs.Cost.{IsCost, IsLeastWith}
use Rattle.sg_bonds.proofs.CostNumbers.{kept_small, kept_unit}
use Rattle.sg_bonds.proofs.EvenCosts.{even_cost, most_cost}
use Rattle.sg_bonds.proofs.ForcedMinimum.{unit_product}
use Rattle.sg_bonds.proofs.OneEntry.{push_each}
use Rattle.sg_bonds.proofs.OneCost.{with-one}
use Rattle.sg_ranges.specs.Turn.{AreTurns, IsDouble, IsTurn, IsTurningPoint}

abbrev no_bond : Bond
no_bond = record { u = 0; v = 0; j = pos 0 }

-- all energies of one instance have one parity
pub parity : (inst : Ising) (s t : List ℤ) → IsInstance inst → IsAssignment inst s → IsAssignment inst t
    → (d : ℤ) × (energy inst s ≡ energy inst t +ℤ (pos 2 *ℤ d))
parity inst s t good a b = (
  pos (sum_by (broken_weight s) inst.bonds) -ℤ pos (sum_by (broken_weight t) inst.bonds),
  omega (arith, ints, energy_from_broken inst s good a, energy_from_broken inst t good b),
)

module _ (inst : Ising) (good : IsInstance inst) (k : ℕ) (inside : k < bond_count inst) where
  abbrev coupling : ℤ
  coupling = (bond_at inst k).j

  -- the moved bond joins the same spins
  product_moved : (z : ℤ) (s : List ℤ) → product s (bond_at (with_coupling inst k z) k) ≡ product s (bond_at inst k)
  product_moved z s = ap (product s) (get_or-set_same inst.bonds k (recoupled (bond_at inst k) z) no_bond inside)

  -- an assignment of one is an assignment of the other
  assigned : (z : ℤ) (s : List ℤ) → IsAssignment inst s → IsAssignment (with_coupling inst k z) s
  assigned z s h = record { count = h.count; values = h.values }

  assigned_back : (z : ℤ) (s : List ℤ) → IsAssignment (with_coupling inst k z) s → IsAssignment inst s
  assigned_back z s h = record { count = h.count; values = h.values }

  -- the energy at a coupling z, for a known product
  moved : (z p : ℤ) (s : List ℤ) → product s (bond_at inst k) ≡ p → energy (with_coupling inst k z) s ≡ (energy inst s +ℤ (coupling *ℤ p)) -ℤ (z *ℤ p)
  moved z p s e = energy_coupled inst k z s inside ∙ ap (λ q. (energy inst s +ℤ (coupling *ℤ q)) -ℤ (z *ℤ q)) e

  -- so the least energy with this product moves
  least_moved : (z p e : ℤ) → IsLeastWith inst k p e → IsLeastWith (with_coupling inst k z) k p ((e +ℤ (coupling *ℤ p)) -ℤ (z *ℤ p))
  least_moved z p e h = record {
    reached = (
      h.reached.0,
      assigned z h.reached.0 h.reached.1,
      product_moved z h.reached.0 ∙ h.reached.2,
      omega (arith, ints, moved z p h.reached.0 h.reached.2, h.reached.3),
    );
    least = λ t u same.
        let has = sym (product_moved z t) ∙ same in
        omega (arith, ints, h.least t (assigned_back z t u) has, moved z p t has);
  }

  -- and back
  least_back : (z p e : ℤ) → IsLeastWith (with_coupling inst k z) k p e → IsLeastWith inst k p ((e -ℤ (coupling *ℤ p)) +ℤ (z *ℤ p))
  least_back z p e h = record {
    reached = (
      h.reached.0,
      assigned_back z h.reached.0 h.reached.1,
      has,
      omega (arith, ints, h.reached.3, moved z p h.reached.0 has),
    );
    least = λ t u same. omega (arith, ints, h.least t (assigned z t u) (product_moved z t ∙ same), moved z p t same);
  }
    where
      has : product h.reached.0 (bond_at inst k) ≡ p
      has = sym (product_moved z h.reached.0) ∙ h.reached.2

  -- where twice t is twice the coupling and what the least energies lie apart, they meet at t
  turn_between : (t e f : ℤ) → IsLeastWith inst k (pos 1) e → IsLeastWith inst k (negsuc 0) f → t +ℤ t ≡ (coupling +ℤ coupling) +ℤ (e -ℤ f) → IsTurn inst k t
  turn_between t e f like unlike twice = record {
    level = (e +ℤ (coupling *ℤ pos 1)) -ℤ (t *ℤ pos 1);
    like = least_moved t (pos 1) e like;
    unlike =
        let meet : (f +ℤ (coupling *ℤ negsuc 0)) -ℤ (t *ℤ negsuc 0) ≡ (e +ℤ (coupling *ℤ pos 1)) -ℤ (t *ℤ pos 1) = omega (arith, ints, twice) in
        subst (IsLeastWith (with_coupling inst k t) k (negsuc 0)) meet (least_moved t (negsuc 0) f unlike);
  }

  -- only there
  pub one_turn : (t u : ℤ) → IsTurn inst k t → IsTurn inst k u → t ≡ u
  one_turn t u g h =
      let like = with-one inst k (pos 1) _ _ (least_back t (pos 1) g.level g.like) (least_back u (pos 1) h.level h.like) in
      let unlike = with-one inst k (negsuc 0) _ _ (least_back t (negsuc 0) g.level g.unlike) (least_back u (negsuc 0) h.level h.unlike) in
      omega (arith, ints, like, unlike)

  unit : (s : List ℤ) → IsAssignment inst s → IsUpOrDown (product s (bond_at inst k))
  unit s h = unit_product inst good k inside s h

  -- a turning coupling parts the ground states
  pub turn_parts : (t : ℤ) → IsTurn inst k t → IsTurningPoint inst k t
  turn_parts t h = record {
    above = λ z l s g. above_it z l s g (unit s (assigned_back z s g.assignment));
    below = λ z l s g. below_it z l s g (unit s (assigned_back z s g.assignment));
    both = both_at;
  }
    where
      like : IsLeastWith inst k (pos 1) ((h.level -ℤ (coupling *ℤ pos 1)) +ℤ (t *ℤ pos 1))
      like = least_back t (pos 1) h.level h.like

      unlike : IsLeastWith inst k (negsuc 0) ((h.level -ℤ (coupling *ℤ negsuc 0)) +ℤ (t *ℤ negsuc 0))
      unlike = least_back t (negsuc 0) h.level h.unlike

      -- the least energy with a product, at z
      at : (z p : ℤ) → IsLeastWith inst k p ((h.level -ℤ (coupling *ℤ p)) +ℤ (t *ℤ p)) →
          IsLeastWith (with_coupling inst k z) k p (((((h.level -ℤ (coupling *ℤ p)) +ℤ (t *ℤ p))) +ℤ (coupling *ℤ p)) -ℤ (z *ℤ p))
      at z p l = least_moved z p _ l

      -- a ground state that has the product q lies no higher than the least with the product p
      order : (z p q : ℤ) (s : List ℤ) → IsGroundState (with_coupling inst k z) s → product s (bond_at inst k) ≡ q →
          IsLeastWith inst k p ((h.level -ℤ (coupling *ℤ p)) +ℤ (t *ℤ p)) → IsLeastWith inst k q ((h.level -ℤ (coupling *ℤ q)) +ℤ (t *ℤ q)) →
          (((((h.level -ℤ (coupling *ℤ q)) +ℤ (t *ℤ q))) +ℤ (coupling *ℤ q)) -ℤ (z *ℤ q)) ≤ℤ
          (((((h.level -ℤ (coupling *ℤ p)) +ℤ (t *ℤ p))) +ℤ (coupling *ℤ p)) -ℤ (z *ℤ p))
      order z p q s g e lp lq =
          let other = at z p lp in
          omega (arith, ints, (at z q lq).least s g.assignment (product_moved z s ∙ e), g.least other.reached.0 other.reached.1, other.reached.3)

      above_it : (z : ℤ) → t <ℤ z → (s : List ℤ) → IsGroundState (with_coupling inst k z) s → IsUpOrDown (product s (bond_at inst k))
          → product s (bond_at inst k) ≡ pos 1
      above_it z l s g (inl e) = e
      above_it z l s g (inr e) = absurd (omega (arith, ints, l, order z (pos 1) (negsuc 0) s g e like unlike))

      below_it : (z : ℤ) → z <ℤ t → (s : List ℤ) → IsGroundState (with_coupling inst k z) s → IsUpOrDown (product s (bond_at inst k))
          → product s (bond_at inst k) ≡ negsuc 0
      below_it z l s g (inr e) = e
      below_it z l s g (inl e) = absurd (omega (arith, ints, l, order z (negsuc 0) (pos 1) s g e unlike like))

      -- at t no assignment lies below the level
      bottom : (u : List ℤ) → IsAssignment (with_coupling inst k t) u → IsUpOrDown (product u (bond_at inst k)) → h.level ≤ℤ energy (with_coupling inst k t) u
      bottom u a (inl e) = h.like.least u a (product_moved t u ∙ e)
      bottom u a (inr e) = h.unlike.least u a (product_moved t u ∙ e)

      ground_at : (p : ℤ) → (w : IsLeastWith (with_coupling inst k t) k p h.level)
          → (s : List ℤ) × IsGroundState (with_coupling inst k t) s × (product s (bond_at inst k) ≡ p)
      ground_at p w = (
        w.reached.0,
        record {
          assignment = w.reached.1;
          least = λ u a. subst (λ x. x ≤ℤ energy (with_coupling inst k t) u) (sym w.reached.3) (bottom u a (unit u (assigned_back t u a)));
        },
        sym (product_moved t w.reached.0) ∙ w.reached.2,
      )

      both_at : (p : ℤ) → IsUpOrDown p → (s : List ℤ) × IsGroundState (with_coupling inst k t) s × (product s (bond_at inst k) ≡ p)
      both_at p (inl e) = subst (λ q. (s : List ℤ) × IsGroundState (with_coupling inst k t) s × (product s (bond_at inst k) ≡ q)) (sym e)
          (ground_at (pos 1) h.like)
      both_at p (inr e) = subst (λ q. (s : List ℤ) × IsGroundState (with_coupling inst k t) s × (product s (bond_at inst k) ≡ q)) (sym e)
          (ground_at (negsuc 0) h.unlike)

  -- from a ground state and the cost of the bond
  pub turn_from_cost : (t c : ℤ) (s : List ℤ) → IsGroundState inst s → IsCost inst k c
      → t +ℤ t ≡ (coupling +ℤ coupling) -ℤ (product s (bond_at inst k) *ℤ c) → IsTurn inst k t
  turn_from_cost t c s g cost twice =
      turn_between t cost.like cost.unlike cost.least_like cost.least_unlike (by_product (unit s g.assignment))
    where
      like_above : energy inst s ≤ℤ cost.like
      like_above = subst (λ x. energy inst s ≤ℤ x) cost.least_like.reached.3 (g.least cost.least_like.reached.0 cost.least_like.reached.1)

      unlike_above : energy inst s ≤ℤ cost.unlike
      unlike_above = subst (λ x. energy inst s ≤ℤ x) cost.least_unlike.reached.3 (g.least cost.least_unlike.reached.0 cost.least_unlike.reached.1)

      by_product : IsUpOrDown (product s (bond_at inst k)) → t +ℤ t ≡ (coupling +ℤ coupling) +ℤ (cost.like -ℤ cost.unlike)
      by_product (inl e) =
          let own = ap (λ q. q *ℤ c) e in omega (arith, ints, twice, own, cost.apart, cost.least_like.least s g.assignment e, unlike_above)
      by_product (inr e) =
          let own = ap (λ q. q *ℤ c) e in omega (arith, ints, twice, own, cost.apart, cost.least_unlike.least s g.assignment e, like_above)

  -- a cost is an even number
  pub cost_halves : (c : ℤ) (most : ℕ) → weight inst ≤ most → IsCost inst k c → IsDouble most c
  cost_halves c most small h =
      let (m, e) = even_cost inst good k c h in
      (m, omega (arith, ints, e, most_cost inst good k c h, small), omega (arith, ints, e))

-- one more turning coupling
pub turns_more : (inst : Ising) (turns : List ℤ) (t : ℤ) (n : ℕ) → length turns ≡ n → ((k : ℕ) → k < n → IsTurn inst k (get_or turns k (pos 0)))
    → IsTurn inst n t → (k : ℕ) → k < n + 1 → IsTurn inst k (get_or (turns ++ t ∷ []) k (pos 0))
turns_more inst turns t n long before here = push_each (IsTurn inst) turns t (pos 0) n long before here

-- a coupling moved by half a cost
pub doubled : (r j p h c : ℤ) → IsUpOrDown p → r ≡ j -ℤ (p *ℤ h) → h +ℤ h ≡ c → r +ℤ r ≡ (j +ℤ j) -ℤ (p *ℤ c)
doubled r j p h c (inl a) e f = let v = ap (λ q. q *ℤ h) a in let w = ap (λ q. q *ℤ c) a in omega (arith, ints, e, f, v, w)
doubled r j p h c (inr a) e f = let v = ap (λ q. q *ℤ h) a in let w = ap (λ q. q *ℤ c) a in omega (arith, ints, e, f, v, w)

-- the same in numbers of 64 bits
pub turn_found : (r j p h c : ℤ) (most : ℕ) → 2 * most < 2 ^ 63 → IsUpOrDown p → unsigned_abs j ≤ most → unsigned_abs h ≤ most
    → unsigned_abs r ≤ 2 * most → FitsSigned w64 c →
    r ≡ to_z w64 (of_z w64 j) -ℤ (to_z w64 (of_z w64 p) *ℤ to_z w64 (of_z w64 h)) → h +ℤ h ≡ to_z w64 (of_z w64 c) →
    to_z w64 (of_z w64 r) +ℤ to_z w64 (of_z w64 r) ≡ (j +ℤ j) -ℤ (p *ℤ c)
turn_found r j p h c most few up small half size fits value twice =
    ap₂ (λ a b. a +ℤ b) kept kept
    ∙ doubled r j p h c up (value ∙ ap₂ (λ a b. a -ℤ b) (kept_small j most small (omega arith))
    (ap₂ (λ a b. a *ℤ b) (kept_unit p up) (kept_small h most half (omega arith))))
    (twice ∙ to_z-of_z w64 c fits)
  where
    kept : to_z w64 (of_z w64 r) ≡ r
    kept = kept_small r (2 * most) size few

-- an even number of 64 bits
pub double_kept : (c : ℤ) (most : ℕ) → 2 * most < 2 ^ 63 → IsDouble most c → to_z w64 (of_z w64 c) ≡ c
double_kept c most few d = kept_small c (2 * d.0) (omega (arith, ap unsigned_abs d.2)) (omega (arith, d.1))

-- an instance has one list of turning couplings
pub turns-one : (inst : Ising) (xs ys : List ℤ) → IsInstance inst → AreTurns inst xs → AreTurns inst ys → xs ≡ ys
turns-one inst xs ys good p q =
    same_lists xs ys (p.count ∙ sym q.count)
    (λ k d l.
    let inside : k < bond_count inst = omega (arith, l, p.count) in
    get_or_default xs k d (pos 0) l
    ∙ one_turn inst good k inside (get_or xs k (pos 0)) (get_or ys k (pos 0)) (p.each k inside) (q.each k inside)
    ∙ sym (get_or_default ys k d (pos 0) (omega (arith, l, p.count, q.count))))
