-- Assignments of which a part is flipped: their products, and their energies by sums over the bonds.
use Rattle.sg_bonds.proofs.Common.{◌≡◌, ℕ, zero, suc, ◌+◌, ◌*◌, ◌^◌, ◌<◌, ◌≤◌, Bool, true, not, cond, eqb, ℤ, pos, neg_ℤ, ◌+ℤ◌, ◌-ℤ◌, ◌*ℤ◌, List, [], length}
use Rattle.sg_bonds.proofs.Common.{get_or, set, refl, sym, ◌∙◌, ap, ap₂, subst, arith, All, unsigned_abs, cases_eq, ints, get_or-set_other, get_or-set_same}
use Rattle.sg_bonds.proofs.Common.{get_or_default, length-set, sum_limit, Bond, Ising, IsBond, bond_at, bond_count, IsInstance, IsUpOrDown, IsAssignment, spin, energy, product, weight}
use Rattle.std.proofs.lemmas.List.Elements.{All-from_get_or}
use Rattle.std.proofs.lemmas.List.FromFn.{get_or-map-range_with_len, length-map-range_with_len}
use Rattle.sg_base.specs.Parity.{xor}
use Rattle.sg_base.specs.Sums.{sum_below}
use Rattle.sg_base.proofs.SumLaws.{sum_by_is_sum_below}
use Rattle.sg_planar.specs.Naming.{AllNamed}
use Rattle.sg_bonds.specs.Flipped.{ArePartNames, with_part_flipped}
use Rattle.sg_bonds.proofs.Agreement.{units}
use Rattle.sg_bonds.proofs.ForcedMinimum.{coupling_size, unit_product}
use Rattle.sg_bonds.proofs.WeakenedEnergy.{aligned_at, energy_is_total, total}

abbrev no_bond : Bond
no_bond = record { u = 0; v = 0; j = pos 0 }

sum_grows : (f : ℕ → ℕ) (n m : ℕ) → n ≤ m → sum_below f n ≤ sum_below f m
sum_grows f n zero l = grind arith
sum_grows f n (suc m) l = grind (arith, cases_eq n (suc m), sum_grows f n m)

unit_part : (b : Bool) (x : ℤ) → IsUpOrDown x → IsUpOrDown (cond b (neg_ℤ x) x)
unit_part b x up = grind (arith, ints, up)

-- the product changes its sign where one of the two is flipped
part_product : (p q : Bool) (x y : ℤ) → IsUpOrDown x → IsUpOrDown y
    → (cond p (neg_ℤ x) x *ℤ cond q (neg_ℤ y) y) ≡ cond (xor p q) (neg_ℤ (x *ℤ y)) (x *ℤ y)
part_product p q x y up down = grind (arith, ints, up, down)

-- a coupling times a product, and times the opposite one
flipped_term : (b : Bool) (j p : ℤ) → IsUpOrDown p → j *ℤ cond b (neg_ℤ p) p ≡ (j *ℤ p) -ℤ cond b (pos 2 *ℤ (j *ℤ p)) (pos 0)
flipped_term b j p up = grind (arith, ints, up)

-- what is gained at one bond is no more than twice its size
term_size : (b : Bool) (j p : ℤ) → IsUpOrDown p → unsigned_abs (cond b (pos 2 *ℤ (j *ℤ p)) (pos 0)) ≤ 2 * unsigned_abs j
term_size b j p up = grind (arith, ints, up)

one_size : (b : Bool) (j p : ℤ) → IsUpOrDown p → unsigned_abs (cond b (pos 0) (pos 2 *ℤ (j *ℤ p))) ≤ 2 * unsigned_abs j
one_size b j p up = grind (arith, ints, up)

module _ (inst : Ising) (s : List ℤ) (parts : List ℕ) where
  -- whether bond k connects the part with another
  abbrev pub leaves_part : ℕ → ℕ → Bool
  leaves_part part k = xor (eqb (get_or parts (bond_at inst k).u 0) part) (eqb (get_or parts (bond_at inst k).v 0) part)

  -- what is gained at bond k by flipping the part
  abbrev pub gain_at : ℕ → ℕ → ℤ
  gain_at part k = cond (leaves_part part k) (pos 2 *ℤ aligned_at inst s k) (pos 0)

module _ (inst : Ising) (good : IsInstance inst) (s : List ℤ) (first : IsAssignment inst s) (parts : List ℕ) (part : ℕ) where
  abbrev other : List ℤ
  other = with_part_flipped s parts part

  spin_of : (i : ℕ) → i < inst.n → spin other i ≡ cond (eqb (get_or parts i 0) part) (neg_ℤ (spin s i)) (spin s i)
  spin_of i l =
      get_or-map-range_with_len (λ i. cond (eqb (get_or parts i 0) part) (neg_ℤ (spin s i)) (spin s i)) 0 (length s) i i (pos 1)
      (omega (arith, l, first.count)) (omega arith)

  long : length other ≡ inst.n
  long = length-map-range_with_len (λ i. cond (eqb (get_or parts i 0) part) (neg_ℤ (spin s i)) (spin s i)) 0 (length s) ∙ first.count

  pub flipped_assignment : IsAssignment inst other
  flipped_assignment = record {
    count = long;
    values = All-from_get_or IsUpOrDown other (pos 1) (λ i l.
        subst IsUpOrDown (sym (spin_of i (omega (arith, l, long)))) (unit_part (eqb (get_or parts i 0) part) (spin s i) (units inst s first i)));
  }

  module _ (k : ℕ) (inside : k < bond_count inst) where
    joined : IsBond inst.n (bond_at inst k)
    joined = good.draft.joined k _ inside

    product_is : product other (bond_at inst k) ≡ cond (leaves_part inst s parts part k) (neg_ℤ (product s (bond_at inst k))) (product s (bond_at inst k))
    product_is =
        ap₂ (λ x y. x *ℤ y) (spin_of (bond_at inst k).u joined.first_end) (spin_of (bond_at inst k).v joined.second_end)
        ∙ part_product (eqb (get_or parts (bond_at inst k).u 0) part) (eqb (get_or parts (bond_at inst k).v 0) part)
        (spin s (bond_at inst k).u) (spin s (bond_at inst k).v) (units inst s first (bond_at inst k).u) (units inst s first (bond_at inst k).v)

    -- a bond that leaves the part is flipped
    pub part_turned : leaves_part inst s parts part k ≡ true → product other (bond_at inst k) ≡ neg_ℤ (product s (bond_at inst k))
    part_turned out = product_is ∙ ap (λ b. cond b (neg_ℤ (product s (bond_at inst k))) (product s (bond_at inst k))) out

    term_is : aligned_at inst other k ≡ aligned_at inst s k -ℤ gain_at inst s parts part k
    term_is =
        ap (λ x. (bond_at inst k).j *ℤ x) product_is
        ∙ flipped_term (leaves_part inst s parts part k) (bond_at inst k).j (product s (bond_at inst k)) (unit_product inst good k inside s first)

  total_is : (n : ℕ) → n ≤ bond_count inst → total (aligned_at inst other) n ≡ total (aligned_at inst s) n -ℤ total (gain_at inst s parts part) n
  total_is zero l = refl
  total_is (suc n) l = omega (arith, ints, total_is n (omega (arith, l)), term_is n (omega (arith, l)))

  -- the energy of the assignment
  pub flipped_energy : energy inst other ≡ energy inst s +ℤ total (gain_at inst s parts part) (bond_count inst)
  flipped_energy = omega (arith, ints, energy_is_total inst other, energy_is_total inst s, total_is (bond_count inst) (omega arith))

  -- the size of what is gained at the first bonds
  gain_size : (n : ℕ) → n ≤ bond_count inst → unsigned_abs (total (gain_at inst s parts part) n) ≤ 2 * sum_below (λ k. unsigned_abs (bond_at inst k).j) n
  gain_size zero l = omega arith
  gain_size (suc n) l =
      let size = term_size (leaves_part inst s parts part n) (bond_at inst n).j (product s (bond_at inst n))
      (unit_product inst good n (omega (arith, l)) s first) in
      omega (arith, ints, gain_size n (omega (arith, l)), size)

  -- it is at most twice the sum of all sizes
  part_size : (n : ℕ) → n ≤ bond_count inst → unsigned_abs (total (gain_at inst s parts part) n) ≤ 2 * weight inst
  part_size n l =
      let grows = sum_grows (λ k. unsigned_abs (bond_at inst k).j) n (bond_count inst) l in
      omega (arith, gain_size n l, grows, sum_by_is_sum_below (λ (b : Bond). unsigned_abs b.j) inst.bonds no_bond)

-- a bond whose ends are in two parts leaves both
pub leaves_both : (p q : ℕ) → not (eqb p q) ≡ true → (xor (eqb p p) (eqb q p) ≡ true) × (xor (eqb p q) (eqb q q) ≡ true)
leaves_both p q h = (grind arith, grind arith)

-- one of a list's numbers grows
added_at : (xs : List ℤ) (i c : ℕ) (x : ℤ) → i < length xs
    → get_or (set xs i (get_or xs i (pos 0) +ℤ x)) c (pos 0) ≡ get_or xs c (pos 0) +ℤ cond (eqb i c) x (pos 0)
added_at xs i c x l = grind (arith, ints, cases_eq i c, get_or-set_same, get_or-set_other)

added_size : (xs : List ℤ) (i c : ℕ) (x : ℤ) → i < length xs
    → unsigned_abs (get_or (set xs i (get_or xs i (pos 0) +ℤ x)) c (pos 0)) ≤ unsigned_abs (get_or xs c (pos 0)) + unsigned_abs x
added_size xs i c x l = grind (arith, ints, added_at xs i c x l)

-- the parts at the two ends of a bond
module _ (inst : Ising) (good : IsInstance inst) (names : List ℕ) (named : ArePartNames inst names) (k : ℕ) (inside : k < bond_count inst) where
  ends : IsBond inst.n (bond_at inst k)
  ends = good.draft.joined k _ inside

  pub first_part : get_or names (bond_at inst k).u 0 < inst.n
  first_part = named.within (bond_at inst k).u 0 (omega (arith, ends.first_end, named.count))

  pub second_part : get_or names (bond_at inst k).v 0 < inst.n
  second_part = named.within (bond_at inst k).v 0 (omega (arith, ends.second_end, named.count))

-- what both ends of a bond add to a part
both_ends : (p q c : ℕ) (y : ℤ)
    → (cond (eqb p c) (cond (eqb p q) (pos 0) y) (pos 0) +ℤ cond (eqb q c) (cond (eqb p q) (pos 0) y) (pos 0)) ≡ cond (xor (eqb p c) (eqb q c)) y (pos 0)
both_ends p q c y = grind (arith, ints, cases_eq p c, cases_eq q c, cases_eq p q)

-- after one bond more
module _ (inst : Ising) (good : IsInstance inst) (s : List ℤ) (own : IsAssignment inst s) (names : List ℕ) (named : ArePartNames inst names)
    (k : ℕ) (inside : k < bond_count inst) (gains : List ℤ) (long : length gains ≡ inst.n)
    (before : (part : ℕ) → part < inst.n → get_or gains part (pos 0) ≡ total (gain_at inst s names part) k) where
  abbrev p : ℕ
  p = get_or names (bond_at inst k).u 0

  abbrev q : ℕ
  q = get_or names (bond_at inst k).v 0

  abbrev x : ℤ
  x = cond (eqb p q) (pos 0) (pos 2 *ℤ aligned_at inst s k)

  abbrev once : List ℤ
  once = set gains p (get_or gains p (pos 0) +ℤ x)

  in_p : p < inst.n
  in_p = first_part inst good names named k inside

  in_q : q < inst.n
  in_q = second_part inst good names named k inside

  once_long : length once ≡ inst.n
  once_long = length-set gains p (get_or gains p (pos 0) +ℤ x) ∙ long

  pub gains_long : length (set once q (get_or once q (pos 0) +ℤ x)) ≡ inst.n
  gains_long = length-set once q (get_or once q (pos 0) +ℤ x) ∙ once_long

  -- what was gained, and what is added to it
  size_before : (part : ℕ) → part < inst.n → unsigned_abs (get_or gains part (pos 0)) ≤ 2 * weight inst
  size_before part l = omega (arith, ap unsigned_abs (before part l), part_size inst good s own names part k (omega (arith, inside)))

  size_now : unsigned_abs x ≤ 2 * weight inst
  size_now =
      let size = one_size (eqb p q) (bond_at inst k).j (product s (bond_at inst k)) (unit_product inst good k inside s own) in
      omega (arith, size, coupling_size inst good k inside)

  pub first_fits : weight inst ≤ sum_limit → unsigned_abs (get_or gains p (pos 0)) + unsigned_abs x < 2 ^ 63
  first_fits small = omega (arith, small, size_before p in_p, size_now)

  pub second_fits : weight inst ≤ sum_limit → unsigned_abs (get_or once q (pos 0)) + unsigned_abs x < 2 ^ 63
  second_fits small = omega (arith, small, added_size gains p q x (omega (arith, in_p, long)), size_before q in_q, size_now)

  pub gains_more : (part : ℕ) → part < inst.n → get_or (set once q (get_or once q (pos 0) +ℤ x)) part (pos 0) ≡ total (gain_at inst s names part) (k + 1)
  gains_more part l =
      let next : suc k ≡ k + 1 = omega arith in
      let first = added_at gains p part x (omega (arith, in_p, long)) in
      let second = added_at once q part x (omega (arith, in_q, once_long)) in
      let ends = both_ends p q part (pos 2 *ℤ aligned_at inst s k) in
      omega (arith, ints, second, first, before part l, ends, ap (total (gain_at inst s names part)) next)

-- names are below the number of spins
pub names_below : (inst : Ising) (set : ℕ → Bool) (names : List ℕ) → AllNamed inst set names → ArePartNames inst names
names_below inst set names named = record { count = named.count; within = within }
  where
    within : All (λ part. part < inst.n) names
    within i d l =
        let inside : i < inst.n = omega (arith, l, named.count) in
        let least : get_or names i 0 ≤ i = (named.each i inside).least i ([], refl) in
        omega (arith, get_or_default names i d 0 l, least, inside)
