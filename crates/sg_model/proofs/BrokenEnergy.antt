-- Energy and broken bonds: an energy is twice the weight of the broken bonds, less the weight of all.
use Rattle.std.proofs.Common.{◌≡◌, ℕ, ◌+◌, ◌*◌, ◌<◌, ℤ, pos, negsuc, neg_ℤ, ◌+ℤ◌, ◌-ℤ◌, ◌*ℤ◌, Bool, cond, List, [], ◌∷◌, refl, arith, sum_by, fold, All}
use Rattle.std.proofs.Common.{unsigned_abs, int_lt, int_eq}
use Rattle.std.proofs.lemmas.Int.{ints}
use Rattle.std.proofs.lemmas.List.Elements.{All-head, All-tail}
use Rattle.std.proofs.lemmas.List.Sums.{sum_by-cons}
use Rattle.sg_model.specs.declared.bond.Bond.{Bond}
use Rattle.sg_model.specs.Ising.{Ising}
use Rattle.sg_model.specs.WellFormed.{IsInstance}
use Rattle.sg_model.specs.Spins.{IsUpOrDown, IsAssignment, spin}
use Rattle.sg_model.specs.Energy.{product, energy, weight}
use Rattle.sg_model.specs.Broken.{is_broken}

-- the weight of a bond if it is broken
abbrev pub broken_weight : List ℤ → Bond → ℕ
broken_weight s b = cond (is_broken s b) (unsigned_abs b.j) 0

-- what a bond costs: twice its weight if it is broken
abbrev pub broken_cost : List ℤ → Bond → ℕ
broken_cost s b = cond (is_broken s b) (2 * unsigned_abs b.j) 0

-- both spins of the bond are up or down
pub record HasUnitEnds (s : List ℤ) (b : Bond) : Type 0 where
  pub first : IsUpOrDown (spin s b.u)
  pub second : IsUpOrDown (spin s b.v)

-- each value of an assignment is 1 or -1
pub unit_at : (inst : Ising) (s : List ℤ) → IsAssignment inst s → (i : ℕ) → i < inst.n → IsUpOrDown (spin s i)
unit_at inst s h i l = h.values i (pos 1) (omega (arith, h.count))

-- so are the values at the ends of each bond
pub unit_ends : (inst : Ising) (s : List ℤ) → IsInstance inst → IsAssignment inst s → All (HasUnitEnds s) inst.bonds
unit_ends inst s good h = grind arith

-- and their product
pub product-up_or_down : (s : List ℤ) (b : Bond) → HasUnitEnds s b → IsUpOrDown (product s b)
product-up_or_down s b h = grind arith

-- of one bond: the coupling times the product is its weight, less twice that if it is broken
one_bond : (j p : ℤ) → IsUpOrDown p →
    (j *ℤ p) +ℤ pos (cond (cond (int_lt j (pos 0)) (int_eq p (pos 1)) (int_eq p (negsuc 0))) (2 * unsigned_abs j) 0) ≡ pos (unsigned_abs j)
one_bond j p h = grind arith

all_bonds : (s : List ℤ) (total : ℤ) (bonds : List Bond) → All (HasUnitEnds s) bonds →
    fold (λ total b. total +ℤ (b.j *ℤ product s b)) total bonds +ℤ pos (sum_by (broken_cost s) bonds) ≡ total +ℤ pos
    (sum_by (λ b. unsigned_abs b.j) bonds)
all_bonds s total [] h = refl
all_bonds s total (b ∷ bonds) h =
    let one : (b.j *ℤ product s b) +ℤ pos (broken_cost s b) ≡ pos (unsigned_abs b.j) =
    one_bond b.j (product s b) (product-up_or_down s b (All-head (HasUnitEnds s) b bonds h)) in
    let rest : fold (λ total b. total +ℤ (b.j *ℤ product s b)) (total +ℤ (b.j *ℤ product s b)) bonds +ℤ pos (sum_by (broken_cost s) bonds) ≡
    (total +ℤ (b.j *ℤ product s b)) +ℤ pos (sum_by (λ b. unsigned_abs b.j) bonds) =
    all_bonds s (total +ℤ (b.j *ℤ product s b)) bonds (All-tail (HasUnitEnds s) b bonds h) in
    simp (sum_by-cons (broken_cost s) b bonds, sum_by-cons (λ b. unsigned_abs b.j) b bonds) (added total (b.j *ℤ product s b) _ _ _ _ _ one rest)
  where
    added : (acc t f : ℤ) (w r a v : ℕ) → t +ℤ pos w ≡ pos a → f +ℤ pos r ≡ (acc +ℤ t) +ℤ pos v →
        f +ℤ pos (w + r) ≡ acc +ℤ pos (a + v)
    added acc t f w r a v p q = omega (arith, ints)

-- the energy by what the broken bonds cost
pub energy_from_costs : (inst : Ising) (s : List ℤ) → IsInstance inst → IsAssignment inst s →
    energy inst s ≡ pos (sum_by (broken_cost s) inst.bonds) -ℤ pos (weight inst)
energy_from_costs inst s good h = turned _ _ _ (all_bonds s (pos 0) inst.bonds (unit_ends inst s good h))
  where
    turned : (f : ℤ) (r v : ℕ) → f +ℤ pos r ≡ pos 0 +ℤ pos v → neg_ℤ f ≡ pos r -ℤ pos v
    turned f r v h = omega (arith, ints)

costs-twice_weights : (s : List ℤ) (bonds : List Bond) → sum_by (broken_cost s) bonds ≡ 2 * sum_by (broken_weight s) bonds
costs-twice_weights s [] = refl
costs-twice_weights s (b ∷ bonds) =
    let one : broken_cost s b ≡ 2 * broken_weight s b = twice (is_broken s b) (unsigned_abs b.j) in
    omega (arith, costs-twice_weights s bonds, sum_by-cons (broken_cost s) b bonds, sum_by-cons (broken_weight s) b bonds)
  where
    twice : (broken : Bool) (w : ℕ) → cond broken (2 * w) 0 ≡ 2 * cond broken w 0
    twice broken w = grind arith

-- the energy is twice the weight of the broken bonds, less the weight of all
pub energy_from_broken : (inst : Ising) (s : List ℤ) → IsInstance inst → IsAssignment inst s →
    energy inst s ≡ pos (2 * sum_by (broken_weight s) inst.bonds) -ℤ pos (weight inst)
energy_from_broken inst s good h = simp (energy_from_costs, costs-twice_weights)
