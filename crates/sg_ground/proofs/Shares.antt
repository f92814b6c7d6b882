-- What a share gives to the whole: its spins break the same bonds, and its loops are loops of the whole.
use Rattle.std.proofs.Common.{inl, inr, ◌≡◌, ◌≢◌, ℕ, ◌+◌, ◌*◌, ◌%◌, ◌<◌, ◌≤◌, ◌||◌, ℤ, pos, ◌*ℤ◌, Bool, false, cond, eqb, List, map, refl, sym, ◌∙◌, ap, ap₂}
use Rattle.std.proofs.Common.{subst, arith, sum_by, count_by, length, get_or, All, eq-eqb, unsigned_abs, ne_eqb}
use Rattle.std.specs.List.Sorted.{IsStrictlyIncreasing}
use Rattle.std.proofs.lemmas.Bool.{cases_eq, cases_lt}
use Rattle.std.proofs.lemmas.List.{get_or-map, length-map}
use Rattle.std.proofs.lemmas.List.Elements.{All-from_get_or, All-map, All-weaker}
use Rattle.sg_base.specs.Sums.{sum_below}
use Rattle.sg_base.specs.Sets.{holds}
use Rattle.sg_base.proofs.ListLaws.{cases_in, list_any-map, list_any-agree_at, list_any-never, sum_by-map_of, sum_by-zero}
use Rattle.sg_base.proofs.OneMore.{rising_order}
use Rattle.sg_base.proofs.SumLaws.{sum_below-same, sum_by_is_sum_below, sum_by-same}
use Rattle.sg_model.specs.declared.bond.Bond.{Bond}
use Rattle.sg_model.specs.Ising.{Ising, IsBond, bond_at, bond_count}
use Rattle.sg_model.specs.WellFormed.{IsInstance}
use Rattle.sg_model.specs.Spins.{IsAssignment, IsUpOrDown, spin}
use Rattle.sg_model.specs.Energy.{product, weight}
use Rattle.sg_model.specs.Broken.{is_negative}
use Rattle.sg_model.proofs.BrokenEnergy.{broken_cost, unit_at}
use Rattle.sg_check.specs.declared.packing.Loop.{Loop}
use Rattle.sg_check.specs.Loop.{IsFrustratedLoop, degree, is_end_of, negative_count}
use Rattle.sg_check.specs.Packing.{load, loop_weight, packed_weight, IsWithin}
use Rattle.sg_ground.specs.Placed.{HasValues, loop_in_whole, numbered}

-- a share of an instance: some of its spins and bonds in rising order, as an instance that numbers both by their places; its bonds join the
-- same spins with the same couplings
pub record IsShare (inst : Ising) (spins bonds : List ℕ) (share : Ising) : Type 0 where
  pub good : IsInstance share
  pub spins_rise : IsStrictlyIncreasing spins
  pub spins_below : All (λ x. x < inst.n) spins
  pub spin_count : share.n ≡ length spins
  pub bonds_rise : IsStrictlyIncreasing bonds
  pub bonds_below : All (λ k. k < bond_count inst) bonds
  pub bond_counts : bond_count share ≡ length bonds
  pub first_end : (i : ℕ) → i < length bonds → numbered spins (bond_at share i).u ≡ (bond_at inst (numbered bonds i)).u
  pub second_end : (i : ℕ) → i < length bonds → numbered spins (bond_at share i).v ≡ (bond_at inst (numbered bonds i)).v
  pub coupling : (i : ℕ) → i < length bonds → (bond_at share i).j ≡ (bond_at inst (numbered bonds i)).j

-- the values that the whole gives to the spins of the share
abbrev pub values_in : List ℕ → List ℤ → List ℤ
values_in spins s = map (spin s) spins

-- the values of the whole at the spins of a part stand there
pub in_place : (spins : List ℕ) (s : List ℤ) → HasValues spins s (values_in spins s)
in_place spins s i l = sym (get_or-map (spin s) spins i 0 (pos 1) l)

-- the numbers of different places differ
rising_apart : (xs : List ℕ) → IsStrictlyIncreasing xs → (i j : ℕ) → i < length xs → j < length xs → eqb (numbered xs i) (numbered xs j) ≡ eqb i j
rising_apart xs up i j l m = elim (cases_eq i j) [
  | inl same ↦ eq-eqb (numbered xs i) (numbered xs j) (ap (numbered xs) same) ∙ sym (eq-eqb i j same)
  | inr other ↦ ne_eqb (numbered xs i) (numbered xs j) (λ e. differ other e) ∙ sym (ne_eqb i j other)
]
  where
    differ : i ≢ j → numbered xs i ≡ numbered xs j → ⊥
    differ other e = elim (cases_lt i j) [
      | inl less ↦ (let lt : numbered xs i < numbered xs j = rising_order xs up i j less m in absurd (omega arith))
      | inr not_less ↦ (let gt : numbered xs j < numbered xs i = rising_order xs up j i (omega (arith, not_less, other)) l in absurd (omega arith))
    ]

-- the numbers of rising places rise
rising_numbers : (xs places : List ℕ) → IsStrictlyIncreasing xs → IsStrictlyIncreasing places → All (λ i. i < length xs) places →
    IsStrictlyIncreasing (map (numbered xs) places)
rising_numbers xs places up rise low k l =
    let within : k + 1 < length places = omega (arith, l, length-map places (numbered xs)) in
    let here : get_or (map (numbered xs) places) k 0 ≡ numbered xs (get_or places k 0) = get_or-map (numbered xs) places k 0 0 (omega arith) in
    let next : get_or (map (numbered xs) places) (k + 1) 0 ≡ numbered xs (get_or places (k + 1) 0) = get_or-map (numbered xs) places (k + 1) 0 0 within in
    let less = rising_order xs up (get_or places k 0) (get_or places (k + 1) 0) (rise k within) (low (k + 1) 0 within) in
    omega arith

-- counts by tests that agree
count_by-same : (p q : ℕ → Bool) (xs : List ℕ) → All (λ x. p x ≡ q x) xs → count_by p xs ≡ count_by q xs
count_by-same p q xs same =
    sum_by-same (λ x. cond (p x) 1 0) (λ x. cond (q x) 1 0) xs
    (All-weaker (λ x. p x ≡ q x) (λ x. cond {A = ℕ} (p x) 1 0 ≡ cond (q x) 1 0) (λ x e. ap (λ b. cond {A = ℕ} b 1 0) e) xs same)

count_by-map : (p : ℕ → Bool) (f : ℕ → ℕ) (xs : List ℕ) → count_by p (map f xs) ≡ count_by (λ x. p (f x)) xs
count_by-map p f xs = sum_by-map_of (λ x. cond (p x) 1 0) f xs

module _ (inst : Ising) (spins bonds : List ℕ) (share : Ising) (is : IsShare inst spins bonds share) where
  -- the bond of the whole at place i of the share
  abbrev whole_bond : ℕ → Bond
  whole_bond i = bond_at inst (numbered bonds i)

  joins : (i : ℕ) → i < length bonds → IsBond share.n (bond_at share i)
  joins i l = is.good.draft.joined i (record { u = 0; v = 0; j = pos 0 }) (omega (arith, l, is.bond_counts))

  first_below : (i : ℕ) → i < length bonds → (bond_at share i).u < length spins
  first_below i l = omega (arith, (joins i l).first_end, is.spin_count)

  second_below : (i : ℕ) → i < length bonds → (bond_at share i).v < length spins
  second_below i l = omega (arith, (joins i l).second_end, is.spin_count)

  -- an assignment of the whole gives the share one
  pub share_assignment : (s : List ℤ) → IsAssignment inst s → IsAssignment share (values_in spins s)
  share_assignment s assigned = record {
    count = length-map spins (spin s) ∙ sym is.spin_count;
    values = All-from_get_or IsUpOrDown (values_in spins s) (pos 1) (λ i l. (
        let low : i < length spins = omega (arith, l, length-map spins (spin s)) in
        subst IsUpOrDown (in_place spins s i low) (unit_at inst s assigned (numbered spins i) (is.spins_below i 0 low))));
  }

  module _ (s t : List ℤ) (values : HasValues spins s t) where
    same_product : (i : ℕ) → i < length bonds → product s (whole_bond i) ≡ product t (bond_at share i)
    same_product i l =
        ap₂ (λ x y. x *ℤ y)
        (ap (spin s) (sym (is.first_end i l)) ∙ values (bond_at share i).u (first_below i l))
        (ap (spin s) (sym (is.second_end i l)) ∙ values (bond_at share i).v (second_below i l))

    same_cost : (i : ℕ) → i < length bonds → broken_cost s (whole_bond i) ≡ broken_cost t (bond_at share i)
    same_cost i l = rw (same_product i l, is.coupling i l) refl

    -- the bonds cost in the whole what they cost in the share
    pub costs_over : sum_by (λ k. broken_cost s (bond_at inst k)) bonds ≡ sum_by (broken_cost t) share.bonds
    costs_over =
        sum_by_is_sum_below (λ k. broken_cost s (bond_at inst k)) bonds 0
        ∙ sum_below-same (λ i. broken_cost s (whole_bond i)) (λ i. broken_cost t (bond_at share i)) (length bonds) same_cost
        ∙ ap (sum_below (λ i. broken_cost t (bond_at share i))) (sym is.bond_counts)
        ∙ sym (sum_by_is_sum_below (broken_cost t) share.bonds (record { u = 0; v = 0; j = pos 0 }))

  -- and weigh what they weigh there
  pub weights_over : sum_by (λ k. unsigned_abs (bond_at inst k).j) bonds ≡ weight share
  weights_over =
      sum_by_is_sum_below (λ k. unsigned_abs (bond_at inst k).j) bonds 0
      ∙ sum_below-same (λ i. unsigned_abs (whole_bond i).j) (λ i. unsigned_abs (bond_at share i).j) (length bonds)
      (λ i l. ap unsigned_abs (sym (is.coupling i l)))
      ∙ ap (sum_below (λ i. unsigned_abs (bond_at share i).j)) (sym is.bond_counts)
      ∙ sym (sum_by_is_sum_below (λ (b : Bond). unsigned_abs b.j) share.bonds (record { u = 0; v = 0; j = pos 0 }))

  module _ (list : List ℕ) (low : All (λ i. i < length bonds) list) where
    -- a spin of the share is met as often as in the share
    degree_inside : (a : ℕ) → a < length spins → degree inst (map (numbered bonds) list) (numbered spins a) ≡ degree share list a
    degree_inside a l =
        count_by-map (λ k. is_end_of (bond_at inst k) (numbered spins a)) (numbered bonds) list
        ∙ count_by-same (λ i. is_end_of (whole_bond i) (numbered spins a)) (λ i. is_end_of (bond_at share i) a) list
        (λ j d m. same (get_or list j d) (low j d m))
      where
        same : (i : ℕ) → i < length bonds → is_end_of (whole_bond i) (numbered spins a) ≡ is_end_of (bond_at share i) a
        same i m =
            ap₂ (λ x y. x || y)
            (ap (λ x. eqb x (numbered spins a)) (sym (is.first_end i m)) ∙ rising_apart spins is.spins_rise (bond_at share i).u a (first_below i m) l)
            (ap (λ x. eqb x (numbered spins a)) (sym (is.second_end i m)) ∙ rising_apart spins is.spins_rise (bond_at share i).v a (second_below i m) l)

    -- any other spin is not met
    degree_outside : (x : ℕ) → ((a : ℕ) → a < length spins → numbered spins a ≢ x) → degree inst (map (numbered bonds) list) x ≡ 0
    degree_outside x out =
        count_by-map (λ k. is_end_of (bond_at inst k) x) (numbered bonds) list
        ∙ count_by-same (λ i. is_end_of (whole_bond i) x) (λ i. false) list (λ j d m. none (get_or list j d) (low j d m))
        ∙ sum_by-zero (λ i. cond false 1 0) list (λ i. refl)
      where
        none : (i : ℕ) → i < length bonds → is_end_of (whole_bond i) x ≡ false
        none i m =
            ap₂ (λ x y. x || y)
            (ap (λ y. eqb y x) (sym (is.first_end i m)) ∙ ne_eqb (numbered spins (bond_at share i).u) x (out (bond_at share i).u (first_below i m)))
            (ap (λ y. eqb y x) (sym (is.second_end i m)) ∙ ne_eqb (numbered spins (bond_at share i).v) x (out (bond_at share i).v (second_below i m)))

    same_negative : negative_count inst (map (numbered bonds) list) ≡ negative_count share list
    same_negative =
        count_by-map (λ k. is_negative (bond_at inst k)) (numbered bonds) list
        ∙ count_by-same (λ i. is_negative (whole_bond i)) (λ i. is_negative (bond_at share i)) list
        (λ j d m. sign (get_or list j d) (low j d m))
      where
        sign : (i : ℕ) → i < length bonds → is_negative (whole_bond i) ≡ is_negative (bond_at share i)
        sign i m = rw (is.coupling i m) refl

  -- a frustrated loop of the share is one of the whole
  pub loop_over : (list : List ℕ) → IsFrustratedLoop share list → IsFrustratedLoop inst (map (numbered bonds) list)
  loop_over list frustrated = record {
    set = record {
      not_empty = omega (arith, frustrated.set.not_empty, length-map list (numbered bonds));
      rising = rising_numbers bonds list is.bonds_rise frustrated.set.rising low;
      below = All-map (λ k. k < bond_count inst) (numbered bonds) list (λ j d m. is.bonds_below (get_or list j d) 0 (low j d m));
    };
    even = λ x l. elim (cases_in spins x) [
      | inl (a, m, same, held) ↦
          ap (λ y. degree inst (map (numbered bonds) list) y % 2) (sym same) ∙ ap (λ c. c % 2) (degree_inside list low a m)
          ∙ frustrated.even a (omega (arith, m, is.spin_count))
      | inr (out, none) ↦ ap (λ c. c % 2) (degree_outside list low x out)
    ];
    odd = ap (λ c. c % 2) (same_negative list low) ∙ frustrated.odd;
  }
    where
      low : All (λ i. i < length bonds) list
      low j d m = omega (arith, frustrated.set.below j d m, is.bond_counts)

  -- loops that the share can carry, the whole can: on its own bonds they weigh what they weigh there, and nothing on others
  pub load_over : (loops : List Loop) → All (λ l. IsFrustratedLoop share l.bonds) loops → ((i : ℕ) → i < bond_count share → IsWithin share loops i) →
      (k : ℕ) → load (map (loop_in_whole bonds) loops) k ≤ cond (holds bonds k) (2 * unsigned_abs (bond_at inst k).j) 0
  load_over loops frustrated within k = elim (cases_in bonds k) [
    | inl (i, m, same, held) ↦
        let here = over ∙ sum_by-same (λ (l : Loop). cond (holds (map (numbered bonds) l.bonds) k) (loop_weight l) 0) (λ l. part l i) loops
        (All-weaker (λ (l : Loop). IsFrustratedLoop share l.bonds)
        (λ (l : Loop). cond (holds (map (numbered bonds) l.bonds) k) (loop_weight l) 0 ≡ part l i)
        (λ l h. ap (λ b. cond b (loop_weight l) 0) (ap (holds (map (numbered bonds) l.bonds)) (sym same) ∙ inside i m l h)) loops frustrated) in
        let most : load loops i ≤ 2 * unsigned_abs (bond_at share i).j = within i (omega (arith, m, is.bond_counts)) in
        let size = ap unsigned_abs (is.coupling i m ∙ ap (λ k. (bond_at inst k).j) same) in
        let value = ap (λ b. cond b (2 * unsigned_abs (bond_at inst k).j) 0) held in
        omega (arith, here, most, size, value)
    | inr (out, none) ↦
        let nothing = over ∙ sum_by-same (λ (l : Loop). cond (holds (map (numbered bonds) l.bonds) k) (loop_weight l) 0) (λ l. 0) loops
        (All-weaker (λ (l : Loop). IsFrustratedLoop share l.bonds)
        (λ (l : Loop). cond (holds (map (numbered bonds) l.bonds) k) (loop_weight l) 0 ≡ 0)
        (λ l h. ap (λ b. cond b (loop_weight l) 0) (outside out l h)) loops frustrated)
        ∙ sum_by-zero (λ (l : Loop). 0) loops (λ l. refl) in
        omega (arith, nothing)
  ]
    where
      part : Loop → ℕ → ℕ
      part l i = cond (holds l.bonds i) (loop_weight l) 0

      over : load (map (loop_in_whole bonds) loops) k ≡ sum_by (λ (l : Loop). cond (holds (map (numbered bonds) l.bonds) k) (loop_weight l) 0) loops
      over = sum_by-map_of (λ (l : Loop). cond (holds l.bonds k) (loop_weight l) 0) (loop_in_whole bonds) loops

      low : (l : Loop) → IsFrustratedLoop share l.bonds → All (λ i. i < length bonds) l.bonds
      low l h j d m = omega (arith, h.set.below j d m, is.bond_counts)

      inside : (i : ℕ) → i < length bonds → (l : Loop) → IsFrustratedLoop share l.bonds →
          holds (map (numbered bonds) l.bonds) (numbered bonds i) ≡ holds l.bonds i
      inside i m l h =
          list_any-map (λ y. eqb y (numbered bonds i)) (numbered bonds) l.bonds
          ∙ list_any-agree_at (λ j. eqb (numbered bonds j) (numbered bonds i)) (λ j. eqb j i) l.bonds 0
          (λ j n. rising_apart bonds is.bonds_rise (get_or l.bonds j 0) i (low l h j 0 n) m)

      outside : ((i : ℕ) → i < length bonds → get_or bonds i 0 ≢ k) → (l : Loop) → IsFrustratedLoop share l.bonds →
          holds (map (numbered bonds) l.bonds) k ≡ false
      outside out l h =
          list_any-map (λ y. eqb y k) (numbered bonds) l.bonds
          ∙ list_any-agree_at (λ j. eqb (numbered bonds j) k) (λ j. false) l.bonds 0
          (λ j n. ne_eqb (numbered bonds (get_or l.bonds j 0)) k (out (get_or l.bonds j 0) (low l h j 0 n)))
          ∙ list_any-never l.bonds

-- the loops weigh the same together
pub total_over : (bonds : List ℕ) (loops : List Loop) → packed_weight (map (loop_in_whole bonds) loops) ≡ packed_weight loops
total_over bonds loops = sum_by-map_of loop_weight (loop_in_whole bonds) loops
