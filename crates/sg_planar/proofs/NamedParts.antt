-- The components of an instance, told by the least spin that a spin reaches: each is a part, and all together hold each spin,
-- each bond and each face once. Where the whole has Euler's number 2, so has each: each number is at most 2, and they sum up.
use Rattle.std.proofs.Common.{[], inl, inr, ◌≡◌, ◌∙◌, sym, ap, refl, subst, ℕ, ◌+◌, ◌<◌, ◌≤◌, pos, Bool, true, false, eqb, List, ◌∷◌, length, get_or, sum_by, arith, ◌≢◌, ap₂, ◌*◌, cond, ◌++◌, slice_index, All}
use Rattle.std.proofs.lemmas.Bool.{cases_lt, eq-eqb, eqb-true, cases_eq, true≢false}
use Rattle.std.proofs.lemmas.Int.{ints}
use Rattle.std.proofs.lemmas.List.{length-map, get_or_default}
use Rattle.std.proofs.lemmas.List.Elements.{All-head, All-tail}
use Rattle.std.proofs.lemmas.List.Sums.{sum_by-cons, length-filter}
use Rattle.std.specs.List.{range_with_len, AllZip}
use Rattle.std.specs.List.Sorted.{IsStrictlyIncreasing}
use Rattle.std.specs.Prelude.{unsigned_abs, ◌-ℤ◌, ◌-◌}
use Rattle.sg_faces.specs.Euler.{IsEuler}
use Rattle.sg_faces.specs.Faces.{face_count, IsFaceLabels, Labelling}
use Rattle.sg_base.specs.Limits.{forced_limit}
use Rattle.sg_model.proofs.LeastSpins.{connected_leasts, one_list}
use Rattle.sg_model.proofs.Paths.{reached_back, reached_on, reached_by_bond}
use Rattle.sg_model.specs.Connected.{IsConnected, Reached, all_bonds, AreLeasts, IsLeastReached}
use Rattle.sg_model.specs.Energy.{weight}
use Rattle.sg_model.specs.Ising.{Ising, bond_at, bond_count}
use Rattle.sg_model.specs.WellFormed.{IsInstance}
use Rattle.sg_planar.proofs.DealtNumbers.{dealt_places}
use Rattle.sg_planar.proofs.EulerBounds.{euler_bound_faces}
use Rattle.sg_planar.proofs.Places.{entry_back, place_below, holds_entry, chosen_holds}
use Rattle.sg_planar.proofs.RestrictedParts.{part_instance, part_connected, least_sides, bare_spins, faces_by_bonds, part_faces, like_tests}
use Rattle.sg_planar.specs.Fit.{Embedding, IsPlanar}
use Rattle.sg_planar.specs.Parts.{place_in, bond_in, AreParts, IsPart, restricted, times_in}
use Rattle.sg_planar.specs.Splitting.{IsClosedPart, IsNaming, component, named_bonds, named_spins, own_names, ArePlaces, IsSplit}
use Rattle.sg_planar.specs.declared.components.Part.{Part}
use Rattle.sg_base.proofs.Choosing.{chosen_below_no, chosen_below_yes, chosen_below_same}
use Rattle.sg_base.proofs.DealtSums.{dealt_out, met_each, sum_by_range}
use Rattle.sg_base.proofs.ListLaws.{sum_by-map_of, filter-never}
use Rattle.sg_base.proofs.MemberSums.{members_sum}
use Rattle.sg_base.proofs.OneMore.{rising_order}
use Rattle.sg_base.proofs.RisingLists.{chosen_below_low, chosen_below_rises, holds-chosen_below, chosen_below_pass}
use Rattle.sg_base.proofs.SumLaws.{sum_below-add, at-le-sum_below, sum_by_is_sum_below, sum_below-same, sum_below_pick}
use Rattle.sg_base.proofs.Tallies.{sum_below_ones, sum_below_times}
use Rattle.sg_base.specs.Sets.{holds, chosen_below}
use Rattle.sg_base.specs.Sums.{sum_below}

-- where no number passes none is chosen
chosen_none : (p : ℕ → Bool) (n : ℕ) → ((k : ℕ) → k < n → p k ≡ false) → chosen_below p n ≡ []
chosen_none p n h = chosen_below_same p (λ k. false) n h ∙ filter-never (λ k. false) (range_with_len 0 n) (λ k. refl)

-- a list has as many entries as it counts
sum_of_ones : (xs : List ℕ) → sum_by (λ x. 1) xs ≡ length xs
sum_of_ones xs = sum_by_is_sum_below (λ x. 1) xs 0 ∙ sum_below_ones (length xs)

zip_push : {A B : Type 0} (R : A → B → Type 0) (xs : List A) (ys : List B) (x : A) (y : B) → AllZip R xs ys → R x y →
    AllZip R (xs ++ x ∷ []) (ys ++ y ∷ [])
zip_push R [] [] x y z r = (r, tt)
zip_push R [] (b ∷ ys) x y z r = absurd z
zip_push R (a ∷ xs) [] x y z r = absurd z
zip_push R (a ∷ xs) (b ∷ ys) x y z r = (z.0, zip_push R xs ys x y z.1 r)

module _ (inst : Ising) (good : IsInstance inst) (name : ℕ → ℕ) (named : IsNaming inst name) where
  -- a name is a spin
  pub name_below : (x : ℕ) → x < inst.n → name x < inst.n
  name_below x l = (let low : name x ≤ x = named.least x x l ([], refl) in omega arith)

  -- spins that reach each other have one name
  pub name_alike : (x y : ℕ) → x < inst.n → y < inst.n → Reached inst all_bonds x y → name x ≡ name y
  name_alike x y l m r =
      let there : name x ≤ name y = named.least x (name y) l (reached_on inst all_bonds x y (name y) r (named.reached y m)) in
      let back : name y ≤ name x = named.least y (name x) m (reached_on inst all_bonds y x (name x) (reached_back inst all_bonds x y r)
      (named.reached x l)) in
      omega (arith, there, back)

  -- a name has itself as its name
  pub name_own : (x : ℕ) → x < inst.n → name (name x) ≡ name x
  name_own x l = sym (name_alike x (name x) l (name_below x l) (named.reached x l))

  -- the first end of a bond is a spin
  pub first_below : (k : ℕ) → k < bond_count inst → (bond_at inst k).u < inst.n
  first_below k l = (good.draft.joined k (record { u = 0; v = 0; j = pos 0 }) l).first_end

  second_below : (k : ℕ) → k < bond_count inst → (bond_at inst k).v < inst.n
  second_below k l = (good.draft.joined k (record { u = 0; v = 0; j = pos 0 }) l).second_end

  name_ends : (k : ℕ) → k < bond_count inst → name (bond_at inst k).v ≡ name (bond_at inst k).u
  name_ends k l = grind (arith, name_alike, reached_by_bond)

  -- what the lists hold
  pub spin_named : (c x : ℕ) → holds (named_spins inst name c) x ≡ true → (x < inst.n) × (name x ≡ c)
  spin_named c x h =
      let b : (x < inst.n) × (eqb (name x) c ≡ true) = chosen_holds (λ x. eqb (name x) c) inst.n x h in (b.0, eqb-true (name x) c b.1)

  -- a spin of the name is one of the list
  pub named_spin : (c x : ℕ) → x < inst.n → name x ≡ c → holds (named_spins inst name c) x ≡ true
  named_spin c x l e = holds-chosen_below (λ x. eqb (name x) c) inst.n x l ∙ eq-eqb (name x) c e

  -- a bond of the list has the name
  pub bond_named : (c k : ℕ) → holds (named_bonds inst name c) k ≡ true → (k < bond_count inst) × (name (bond_at inst k).u ≡ c)
  bond_named c k h =
      let b : (k < bond_count inst) × (eqb (name (bond_at inst k).u) c ≡ true) =
      chosen_holds (λ k. eqb (name (bond_at inst k).u) c) (bond_count inst) k h in (b.0, eqb-true (name (bond_at inst k).u) c b.1)

  -- the spins with their own name are the least spins
  pub own_leasts : AreLeasts inst (own_names name inst.n)
  own_leasts = record {
    rising = chosen_below_rises (λ c. eqb (name c) c) inst.n;
    each = λ i. ((λ h. there i h), (λ h. back i h.0 h.1));
  }
    where
      there : (i : ℕ) → holds (own_names name inst.n) i ≡ true → (i < inst.n) × IsLeastReached inst i
      there i h = grind (arith, chosen_holds)

      back : (i : ℕ) → i < inst.n → IsLeastReached inst i → holds (own_names name inst.n) i ≡ true
      back i l least =
          let up : i ≤ name i = least (name i) (named.reached i l) in
          let down : name i ≤ i = named.least i i l ([], refl) in
          holds-chosen_below (λ c. eqb (name c) c) inst.n i l ∙ eq-eqb (name i) i (omega (arith, up, down))

  module _ (c : ℕ) (l : c < inst.n) (own : name c ≡ c) where
    -- a component is a part
    pub named_part : IsClosedPart inst (named_spins inst name c) (named_bonds inst name c)
    named_part = record {
      some = some;
      spins_rise = chosen_below_rises (λ x. eqb (name x) c) inst.n;
      bonds_rise = chosen_below_rises (λ k. eqb (name (bond_at inst k).u) c) (bond_count inst);
      spins_below = λ x h. (spin_named c x h).0;
      bonds_below = λ k h. (bond_named c k h).0;
      first_end = λ k b.
          holds-chosen_below (λ x. eqb (name x) c) inst.n (bond_at inst k).u (first_below k b)
          ∙ sym (holds-chosen_below (λ k. eqb (name (bond_at inst k).u) c) (bond_count inst) k b);
      second_end = λ k b.
          holds-chosen_below (λ x. eqb (name x) c) inst.n (bond_at inst k).v (second_below k b)
          ∙ ap (λ x. eqb x c) (name_ends k b)
          ∙ sym (holds-chosen_below (λ k. eqb (name (bond_at inst k).u) c) (bond_count inst) k b);
    }
      where
        some : 0 < length (named_spins inst name c)
        some =
            let b : place_in (named_spins inst name c) c < length (named_spins inst name c) = place_below (named_spins inst name c)
            (chosen_below_rises (λ x. eqb (name x) c) inst.n) c (named_spin c c l own) in omega (arith, b)

    -- the component is an instance
    pub named_instance : IsInstance (component inst name c)
    named_instance = part_instance inst good (named_spins inst name c) (named_bonds inst name c) named_part

    -- the least spin reaches each of its component
    pub named_reached : (x : ℕ) → holds (named_spins inst name c) x ≡ true → Reached inst all_bonds c x
    named_reached x h =
        let b : (x < inst.n) × (name x ≡ c) = spin_named c x h in
        reached_back inst all_bonds x c (subst (Reached inst all_bonds x) b.1 (named.reached x b.0))

    -- a spin that it reaches is one of the component
    pub reached_named : (x : ℕ) → x < inst.n → Reached inst all_bonds c x → holds (named_spins inst name c) x ≡ true
    reached_named x b r = named_spin c x b (sym (name_alike c x l b r) ∙ own)

    -- its least spin stands first
    own_first : place_in (named_spins inst name c) c ≡ 0
    own_first = elim (cases_lt 0 p) [
      | inl later ↦
          let less : get_or xs 0 0 < get_or xs p 0 = rising_order xs rises 0 p later low in
          let back : get_or xs p 0 ≡ c = entry_back xs rises c (named_spin c c l own) in
          let first : (get_or xs 0 0 < inst.n) × (name (get_or xs 0 0) ≡ c) = spin_named c (get_or xs 0 0) (holds_entry xs 0 (omega (arith, low, later))) in
          let least : name (get_or xs 0 0) ≤ get_or xs 0 0 = named.least (get_or xs 0 0) (get_or xs 0 0) first.0 ([], refl) in
          absurd (omega (arith, less, back, first.1, least))
      | inr now ↦ omega (arith, now)
    ]
      where
        xs : List ℕ
        xs = named_spins inst name c

        rises : IsStrictlyIncreasing xs
        rises = chosen_below_rises (λ x. eqb (name x) c) inst.n

        p : ℕ
        p = place_in xs c

        low : place_in xs c < length xs
        low = place_below xs rises c (named_spin c c l own)

    -- the component is connected
    pub named_connected : IsConnected (component inst name c)
    named_connected = part_connected inst good (named_spins inst name c) (named_bonds inst name c) named_part c (named_spin c c l own) own_first named_reached

  -- ---- Euler's number

  -- spins and faces of a component, and its bonds with two for the component
  abbrev filled : ℕ → ℕ
  filled c =
      sum_by (λ x. 1) (named_spins inst name c) + (sum_by (least_sides inst) (named_bonds inst name c) + sum_by (bare_spins inst) (named_spins inst name c))

  abbrev is_own : ℕ → ℕ
  is_own c = cond (eqb (name c) c) 1 0

  abbrev allowed : ℕ → ℕ
  allowed c = sum_by (λ k. 1) (named_bonds inst name c) + 2 * is_own c

  filled_sum : sum_below filled inst.n ≡ inst.n + face_count inst
  filled_sum =
      sum_below-add ones (λ c. sides c + bare c) inst.n
      ∙ ap₂ {A = ℕ} (λ a b. a + b)
      (dealt_out (λ x. 1) name inst.n inst.n (name_below) ∙ sum_below_ones inst.n)
      (sum_below-add sides bare inst.n
      ∙ ap₂ {A = ℕ} (λ a b. a + b)
      (dealt_out (least_sides inst) (λ k. name (bond_at inst k).u) inst.n (bond_count inst)
      (λ k l. name_below (bond_at inst k).u (first_below k l)))
      (dealt_out (bare_spins inst) name inst.n inst.n (name_below)) ∙ sym (faces_by_bonds inst))
    where
      ones : ℕ → ℕ
      ones c = sum_by (λ x. 1) (named_spins inst name c)

      sides : ℕ → ℕ
      sides c = sum_by (least_sides inst) (named_bonds inst name c)

      bare : ℕ → ℕ
      bare c = sum_by (bare_spins inst) (named_spins inst name c)

  own_count : sum_below (λ c. cond {A = ℕ} (eqb (name c) c) 1 0) inst.n ≡ length (own_names name inst.n)
  own_count = sym (sum_by_range (λ c. cond {A = ℕ} (eqb (name c) c) 1 0) inst.n) ∙ sym (length-filter (λ c. eqb (name c) c) (range_with_len 0 inst.n))

  allowed_sum : sum_below allowed inst.n ≡ bond_count inst + 2 * length (own_names name inst.n)
  allowed_sum =
      sum_below-add (λ c. sum_by (λ k. 1) (named_bonds inst name c)) (λ c. 2 * cond (eqb (name c) c) 1 0) inst.n
      ∙ ap₂ {A = ℕ} (λ a b. a + b)
      (dealt_out (λ k. 1) (λ k. name (bond_at inst k).u) inst.n (bond_count inst)
      (λ k l. name_below (bond_at inst k).u (first_below k l)) ∙ sum_below_ones (bond_count inst))
      (sum_below_times 2 (λ c. cond (eqb (name c) c) 1 0) inst.n ∙ ap (λ n. 2 * n) own_count)

  -- a number that is no name has no spin and no bond
  no_spins : (c : ℕ) → name c ≢ c → named_spins inst name c ≡ []
  no_spins c ne = grind (arith, chosen_none, name_own)

  no_bonds : (c : ℕ) → name c ≢ c → named_bonds inst name c ≡ []
  no_bonds c ne = grind (arith, chosen_none, name_own)

  part_filled : (c : ℕ) (l : c < inst.n) (own : name c ≡ c) → (component inst name c).n + face_count (component inst name c) ≡ filled c
  part_filled c l own = ap₂ {A = ℕ} (λ a b. a + b) (sym (sum_of_ones (named_spins inst name c)))
      (part_faces inst good (named_spins inst name c) (named_bonds inst name c) (named_part c l own))

  part_allowed : (c : ℕ) → name c ≡ c → bond_count (component inst name c) + 2 ≡ allowed c
  part_allowed c own = grind (arith, length-map, sum_of_ones)

  at_most : (c : ℕ) → c < inst.n → filled c ≤ allowed c
  at_most c l = elim (cases_eq (name c) c) [
    | inl own ↦
        let part : (component inst name c).n + face_count (component inst name c) ≤ bond_count (component inst name c) + 2 =
        euler_bound_faces (component inst name c) (named_instance c l own) (named_connected c l own) in
        omega (arith, part, part_filled c l own, part_allowed c own)
    | inr ne ↦ omega (
      arith,
      ap (sum_by (λ x. 1)) (no_spins c ne),
      ap (sum_by (bare_spins inst)) (no_spins c ne),
      ap (sum_by (least_sides inst)) (no_bonds c ne),
    )
  ]

  module _ (flat : IsEuler inst (pos 2)) where
    whole_sum : inst.n + face_count inst ≡ bond_count inst + 2 * length (own_names name inst.n)
    whole_sum =
        let one : length flat.leasts ≡ length (own_names name inst.n) =
        ap length (one_list inst flat.leasts (own_names name inst.n) flat.components (own_leasts)) in
        let first : holds (own_names name inst.n) (name 0) ≡ true =
        holds-chosen_below (λ c. eqb (name c) c) inst.n (name 0) (name_below 0 good.draft.has_spin)
        ∙ eq-eqb (name (name 0)) (name 0) (name_own 0 good.draft.has_spin) in
        let some : place_in (own_names name inst.n) (name 0) < length (own_names name inst.n) =
        place_below (own_names name inst.n) (own_leasts).rising (name 0) first in
        sums (inst.n + face_count inst) (bond_count inst) (length flat.leasts) flat.value (omega (arith, some, one)) ∙ ap (λ k. bond_count inst + 2 * k) one
      where
        sums : (a m k : ℕ) → pos 2 ≡ pos a -ℤ pos (m + 2 * (k - 1)) → 0 < k → a ≡ m + 2 * k
        sums a m k e l = omega (arith, ints)

    -- each part has Euler's number 2
    pub part_euler : (c : ℕ) → c < inst.n → name c ≡ c → IsEuler (component inst name c) (pos 2)
    part_euler c l own = record {
      leasts = 0 ∷ [];
      components = connected_leasts (component inst name c)
          (named_instance c l own).draft.has_spin (named_connected c l own);
      value = two ((component inst name c).n + face_count (component inst name c))
          (bond_count (component inst name c))
          (part_filled c l own ∙ met_each filled allowed inst.n at_most (filled_sum ∙ whole_sum ∙ sym allowed_sum) c l ∙ sym (part_allowed c own));
    }
      where
        two : (a m : ℕ) → a ≡ m + 2 → pos 2 ≡ pos a -ℤ pos (m + 2 * (1 - 1))
        two a m e = omega (arith, ints)

  -- a part weighs no more than the whole
  pub part_weight : (c : ℕ) → c < inst.n → weight (component inst name c) ≤ weight inst
  part_weight c l =
      let one : weight (component inst name c) ≡ sum_by size (named_bonds inst name c) =
      sum_by-map_of (λ b. unsigned_abs b.j) (λ k. bond_in (named_spins inst name c) (bond_at inst k)) (named_bonds inst name c) in
      let all : sum_below (λ c. sum_by size (named_bonds inst name c)) inst.n ≡ sum_below size (bond_count inst) =
      dealt_out size (λ k. name (bond_at inst k).u) inst.n (bond_count inst)
      (λ k b. name_below (bond_at inst k).u (first_below k b)) in
      let whole : weight inst ≡ sum_below size (bond_count inst) =
      sum_by_is_sum_below (λ b. unsigned_abs b.j) inst.bonds (record { u = 0; v = 0; j = pos 0 }) in
      omega (arith, at-le-sum_below (λ c. sum_by size (named_bonds inst name c)) c inst.n l, one, all, whole)
    where
      size : ℕ → ℕ
      size k = unsigned_abs (bond_at inst k).j

  -- ---- the parts together

  module _ (flat : IsEuler inst (pos 2)) (small : weight inst ≤ forced_limit) (c : ℕ) (l : c < inst.n) (own : name c ≡ c) where
    -- a component of a planar instance is planar
    pub part_planar : (faces : Labelling) → IsFaceLabels (component inst name c) faces →
        IsPlanar (record { instance = component inst name c; faces = faces })
    part_planar faces labels = grind (arith, named_instance, part_euler, part_weight)

    -- and is the part of its least spin
    pub part_made : (p : Embedding) → p.instance ≡ component inst name c → IsPlanar p →
        IsPart inst c (record { spins = named_spins inst name c; bonds = named_bonds inst name c; planar = p })
    part_made p is planar = record {
      spins_rise = chosen_below_rises (λ x. eqb (name x) c) inst.n;
      spins =
          λ x. (
            (λ h. ((spin_named c x h).0, named_reached c l own x h)),
            (λ h. reached_named c l own x h.0 h.1),
          );
      bonds_rise = chosen_below_rises (λ k. eqb (name (bond_at inst k).u) c) (bond_count inst);
      bonds = λ k. (
        (λ h. (let b : (k < bond_count inst) × (name (bond_at inst k).u ≡ c) = bond_named c k h in
            (b.0, named_spin c (bond_at inst k).u (first_below k b.0) b.1))),
        (λ h. holds-chosen_below (λ k. eqb (name (bond_at inst k).u) c) (bond_count inst) k h.0 ∙ eq-eqb (name (bond_at inst k).u) c
            (spin_named c (bond_at inst k).u h.1).1),
      );
      instance = is;
      connected = rw is (named_connected c l own);
      planar = planar;
    }

  -- a sum over the parts of what is 1 in the part of name y and else 0
  once_by_name : (y : ℕ) (f : Part → ℕ) →
      ((c : ℕ) (p : Part) → (c < inst.n) × (name c ≡ c) → IsPart inst c p → f p ≡ cond (eqb y c) 1 0) →
      (leasts : List ℕ) (parts : List Part) → AllZip (IsPart inst) leasts parts → All (λ c. (c < inst.n) × (name c ≡ c)) leasts →
      sum_by f parts ≡ sum_by (λ c. cond (eqb y c) 1 0) leasts
  once_by_name y f is [] [] z h = refl
  once_by_name y f is [] (p ∷ parts) z h = absurd z
  once_by_name y f is (c ∷ leasts) [] z h = absurd z
  once_by_name y f is (c ∷ leasts) (p ∷ parts) z h =
      let own : (c < inst.n) × (name c ≡ c) = All-head (λ c. (c < inst.n) × (name c ≡ c)) c leasts h in
      sum_by-cons f p parts
      ∙ ap₂ {A = ℕ} (λ a b. a + b) (is c p own z.0) (once_by_name y f is leasts parts z.1 (All-tail (λ c. (c < inst.n) × (name c ≡ c)) c leasts h))
      ∙ sym (sum_by-cons (λ c. cond (eqb y c) 1 0) c leasts)

  -- a spin stands in the part of its name alone
  stands : (x : ℕ) → x < inst.n → (c : ℕ) (p : Part) → (c < inst.n) × (name c ≡ c) → IsPart inst c p → holds p.spins x ≡ eqb (name x) c
  stands x l c p own is = like_tests (holds p.spins x) (eqb (name x) c)
      (λ t. eq-eqb (name x) c (sym (name_alike c x own.0 l ((is.spins x).0 t).1) ∙ own.1))
      (λ t. (is.spins x).1 (l, named_reached c own.0 own.1 x (named_spin c x l (eqb-true (name x) c t))))

  own_once : (y : ℕ) → y < inst.n → name y ≡ y → sum_by (λ c. cond (eqb y c) 1 0) (own_names name inst.n) ≡ 1
  own_once y l own =
      sym (members_sum (λ c. cond (eqb y c) 1 0) (own_names name inst.n) inst.n (chosen_below_low (λ c. eqb (name c) c) inst.n)
      (chosen_below_rises (λ c. eqb (name c) c) inst.n))
      ∙ sum_below-same (λ c. cond (holds (own_names name inst.n) c) (cond (eqb y c) 1 0) 0) (λ c. cond (eqb y c) 1 0) inst.n
      (λ c b. both (holds (own_names name inst.n) c) (eqb y c) (λ t. ap (holds (own_names name inst.n)) (sym (eqb-true y c t)) ∙ held))
      ∙ sum_below_pick 1 y inst.n l
    where
      held : holds (own_names name inst.n) y ≡ true
      held = holds-chosen_below (λ c. eqb (name c) c) inst.n y l ∙ eq-eqb (name y) y own

      both : (a b : Bool) → (b ≡ true → a ≡ true) → cond {A = ℕ} a (cond b 1 0) 0 ≡ cond b 1 0
      both true b h = refl
      both false true h = absurd (true≢false (sym (h refl)))
      both false false h = refl

  -- the parts of all least spins are the parts of the instance
  pub parts_made : (parts : List Part) → AllZip (IsPart inst) (own_names name inst.n) parts → AreParts inst parts
  parts_made parts z = record {
    leasts = own_names name inst.n;
    components = own_leasts;
    each = z;
    spins_once = λ x l. once (name x) (name_below x l) (name_own x l) (λ p. times_in p.spins x)
        (λ c p h is. ap (λ b. cond {A = ℕ} b 1 0) (stands x l c p h is));
    bonds_once = λ k l.
        (let u : (bond_at inst k).u < inst.n = first_below k l in
        once (name (bond_at inst k).u) (name_below (bond_at inst k).u u) (name_own (bond_at inst k).u u) (λ p. times_in p.bonds k)
        (λ c p h is. ap (λ b. cond {A = ℕ} b 1 0)
        (like_tests (holds p.bonds k) (holds p.spins (bond_at inst k).u) (λ t. ((is.bonds k).0 t).1) (λ t. (is.bonds k).1 (l, t))
        ∙ stands (bond_at inst k).u u c p h is)));
  }
    where
      own : All (λ c. (c < inst.n) × (name c ≡ c)) (own_names name inst.n)
      own j d b = grind (arith, chosen_below_low, eqb-true, chosen_below_pass, inst.n)

      once : (y : ℕ) → y < inst.n → name y ≡ y → (f : Part → ℕ) →
          ((c : ℕ) (p : Part) → (c < inst.n) × (name c ≡ c) → IsPart inst c p → f p ≡ cond (eqb y c) 1 0) → sum_by f parts ≡ 1
      once y l same f is = once_by_name y f is (own_names name inst.n) parts z own ∙ own_once y l same

-- one part more
pub zip_more : (inst : Ising) (name : ℕ → ℕ) (stop : ℕ) (parts : List Part) (part : Part) → AllZip (IsPart inst) (own_names name stop) parts →
    name stop ≡ stop → IsPart inst stop part →
    AllZip (IsPart inst) (own_names name (stop + 1)) (parts ++ part ∷ [])
zip_more inst name stop parts part z own is = grind (arith, chosen_below_yes, zip_push)

-- a spin that is not the least of its component adds no part
pub zip_same : (inst : Ising) (name : ℕ → ℕ) (stop : ℕ) (parts : List Part) → AllZip (IsPart inst) (own_names name stop) parts →
    eqb (name stop) stop ≡ false → AllZip (IsPart inst) (own_names name (stop + 1)) parts
zip_same inst name stop parts z other = subst (λ xs. AllZip (IsPart inst) xs parts) (sym (chosen_below_no (λ c. eqb (name c) c) stop other)) z

-- what was dealt out to a least spin: the part that it makes
pub record IsDealtPart (inst : Ising) (least : ℕ) (spins bonds spin_table bond_table : List ℕ) : Type 0 where
  pub closed : IsClosedPart inst spins bonds
  pub spin_places : ArePlaces spins spin_table inst.n
  pub bond_places : ArePlaces bonds bond_table (bond_count inst)
  pub connected : IsConnected (restricted inst spins bonds)
  pub planar : (faces : Labelling) → IsFaceLabels (restricted inst spins bonds) faces →
      IsPlanar (record { instance = restricted inst spins bonds; faces = faces })
  pub part : (p : Embedding) → p.instance ≡ restricted inst spins bonds → IsPlanar p →
      IsPart inst least (record { spins = spins; bonds = bonds; planar = p })

-- it is the component of that spin
pub dealt_part : {inst : Ising} (good : IsInstance inst) {names : List ℕ} {spin_lists : List (List ℕ)} {spin_places : List ℕ}
    {bond_lists : List (List ℕ)} {bond_places : List ℕ} (split : IsSplit inst names spin_lists spin_places bond_lists bond_places) →
    IsEuler inst (pos 2) → weight inst ≤ forced_limit → (c : ℕ) → c < inst.n → get_or names c 0 ≡ c → (spins bonds x y : List ℕ) →
    spins ≡ x → x ≡ get_or spin_lists c x → bonds ≡ y → y ≡ get_or bond_lists c y → IsDealtPart inst c spins bonds spin_places bond_places
dealt_part {inst} good {names} {spin_lists} {spin_places} {bond_lists} {bond_places} split flat small c l own spins bonds x y p q r t =
    rw (
      p ∙ q ∙ get_or_default spin_lists c x [] (omega (arith, l, split.spins.lists_count)) ∙ split.spins.dealt c l,
      r ∙ t ∙ get_or_default bond_lists c y [] (omega (arith, l, split.bonds.lists_count)) ∙ split.bonds.dealt c l,
    ) (record {
      closed = named_part inst good name split.naming c l own;
      spin_places = dealt_places name inst.n inst.n spin_lists spin_places split.spins good.draft.few_spins c;
      bond_places =
          dealt_places (λ k. name (bond_at inst k).u) inst.n (bond_count inst) bond_lists bond_places split.bonds good.draft.few_bonds c;
      connected = named_connected inst good name split.naming c l own;
      planar = part_planar inst good name split.naming flat small c l own;
      part = part_made inst good name split.naming flat small c l own;
    })
  where
    name : ℕ → ℕ
    name = slice_index names
