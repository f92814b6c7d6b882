-- A part of an instance, which no bond leaves, as an instance of its own: its darts, rotation and faces are those of the whole
-- that lie in it, and walks stay in it.
use Rattle.std.proofs.Common.{[], inl, inr, ◌≡◌, ◌⊎◌, ◌∙◌, sym, ap, ap₂, refl, ℕ, ◌+◌, ◌*◌, ◌/◌, ◌%◌, ◌<◌, ◌≤◌, pos, Bool, true, false, cond, eqb, List, ◌∷◌, length, get_or, map, count_by, All, arith, ◌≢◌, ◌↔◌, zero, suc, not, sum_by, subst, ◌==◌}
use Rattle.std.proofs.lemmas.Bool.{cases_lt, eqb-true, false_from_ne_true, cases_eq, true≢false}
use Rattle.std.proofs.lemmas.List.{get_or-map, length-map}
use Rattle.std.proofs.lemmas.List.Elements.{All-from_get_or, All-map, All-head, All-tail}
use Rattle.std.proofs.lemmas.List.Sums.{sum_by-cons}
use Rattle.std.specs.List.{position_or_len, prefix_len}
use Rattle.sg_faces.proofs.BareSpins.{all_miss, not_bare}
use Rattle.sg_faces.proofs.FaceOrbits.{face_steps_below, least_of_face}
use Rattle.sg_faces.specs.Faces.{phi, steps, is_least, is_bare, face_count}
use Rattle.sg_model.proofs.DartPairs.{dart_cases, rev_below}
use Rattle.sg_model.proofs.Darts.{tail_first, tail_second, rev_first, rev_second, is_dart_of-parts, is_dart_of-from, tail_even, tail_odd}
use Rattle.sg_model.proofs.Rotations.{in_list, place_of, next_is, next_in_list}
use Rattle.sg_model.specs.Connected.{HasEnds, IsConnected, IsWalk, JoinedBy, Reached, all_bonds}
use Rattle.sg_model.specs.Ising.{Ising, IsBond, bond_at, bond_count}
use Rattle.sg_model.specs.Rotation.{dart_count, rev, tail, is_dart_of, darts_of, next, following}
use Rattle.sg_model.specs.WellFormed.{IsInstance}
use Rattle.sg_planar.proofs.Places.{entry_back, place_below, place_of_entry, places_apart, holds_entry, rising_few}
use Rattle.sg_planar.specs.Parts.{place_in, dart_in, bond_in, restricted}
use Rattle.sg_planar.specs.Splitting.{IsClosedPart}
use Rattle.sg_base.proofs.DealtSums.{sum_by_range, sum_below_by_pairs}
use Rattle.sg_base.proofs.ListLaws.{sum_by-map_of}
use Rattle.sg_base.proofs.OneMore.{rising_order}
use Rattle.sg_base.proofs.SumLaws.{sum_by-same, sum_below-same, sum_by_is_sum_below}
use Rattle.sg_base.specs.Sets.{holds}
use Rattle.sg_base.specs.Sums.{sum_below}

-- ---- a map of bonds as a map of their darts

abbrev pub lifted : (ℕ → ℕ) → ℕ → ℕ
lifted f d = 2 * f (d / 2) + d % 2

-- the bond of a lifted dart
pub lifted_half : (f : ℕ → ℕ) (d : ℕ) → lifted f d / 2 ≡ f (d / 2)
lifted_half f d = omega arith

-- a dart lifted there and back
pub lifted_back : (f g : ℕ → ℕ) (d : ℕ) → g (f (d / 2)) ≡ d / 2 → lifted g (lifted f d) ≡ d
lifted_back f g d e = grind arith

-- the first dart of a bond is lifted to a first one
pub lifted_first : (f : ℕ → ℕ) (k : ℕ) → lifted f (2 * k) ≡ 2 * f k
lifted_first f k = let half : 2 * k / 2 ≡ k = omega arith in omega (arith, ap f half)

-- and the second to a second one
pub lifted_second : (f : ℕ → ℕ) (k : ℕ) → lifted f (2 * k + 1) ≡ 2 * f k + 1
lifted_second f k = let half : (2 * k + 1) / 2 ≡ k = omega arith in omega (arith, ap f half)

-- lifting and turning round may be exchanged
pub lifted_rev : (f : ℕ → ℕ) (d : ℕ) → rev (lifted f d) ≡ lifted f (rev d)
lifted_rev f d = by_dart (dart_cases d)
  where
    by_dart : ((k : ℕ) × ((d ≡ 2 * k) ⊎ (d ≡ 2 * k + 1))) → rev (lifted f d) ≡ lifted f (rev d)
    by_dart (k, inl e) =
        ap (λ x. rev (lifted f x)) e ∙ ap rev (lifted_first f k) ∙ rev_first (f k) ∙ sym (lifted_second f k) ∙ ap (lifted f) (sym (rev_first k))
        ∙ ap (λ x. lifted f (rev x)) (sym e)
    by_dart (k, inr e) =
        ap (λ x. rev (lifted f x)) e ∙ ap rev (lifted_second f k) ∙ rev_second (f k) ∙ sym (lifted_first f k) ∙ ap (lifted f) (sym (rev_second k))
        ∙ ap (λ x. lifted f (rev x)) (sym e)

-- the dart of the whole that is dart e of a part with these bonds
abbrev pub whole_dart : List ℕ → ℕ → ℕ
whole_dart bonds e = lifted (λ k. get_or bonds k 0) e

-- two conditions that imply each other are the same
pub like_tests : (a b : Bool) → (a ≡ true → b ≡ true) → (b ≡ true → a ≡ true) → a ≡ b
like_tests true b f g = sym (f refl)
like_tests false true f g = g refl
like_tests false false f g = refl

-- a dart leaves one of the ends of its bond
tail_cases : (inst : Ising) (d : ℕ) → (tail inst d ≡ (bond_at inst (d / 2)).u) ⊎ (tail inst d ≡ (bond_at inst (d / 2)).v)
tail_cases inst d = elim (cases_eq (d % 2) 0) [ inl e ↦ inl (tail_even inst d e) | inr o ↦ inr (tail_odd inst d o) ]

-- a spin is bare where no dart leaves it
bare_means : (inst : Ising) (i : ℕ) → (is_bare inst i ≡ true) ↔ ((d : ℕ) → d < dart_count inst → tail inst d ≢ i)
bare_means inst i = (
  λ h d l e. true≢false (sym h
      ∙ not_bare inst i (d / 2) (omega arith) (elim (tail_cases inst d) [ inl u ↦ inl (sym u ∙ e) | inr v ↦ inr (sym v ∙ e) ])),
  λ h. all_miss inst i (λ k l. (λ e. h (2 * k) (omega arith) (tail_first inst k ∙ e), λ e. h (2 * k + 1) (omega arith) (tail_second inst k ∙ e))),
)

-- how many darts of bond k are the least of their faces
abbrev pub least_sides : Ising → ℕ → ℕ
least_sides inst k = cond {A = ℕ} (is_least inst (2 * k)) 1 0 + cond (is_least inst (2 * k + 1)) 1 0

abbrev pub bare_spins : Ising → ℕ → ℕ
bare_spins inst i = cond (is_bare inst i) 1 0

-- the faces of an instance, bond by bond and spin by spin
pub faces_by_bonds : (inst : Ising) → face_count inst ≡ sum_below (least_sides inst) (bond_count inst) + sum_below (bare_spins inst) inst.n
faces_by_bonds inst = grind (arith, sum_by_range, sum_below_by_pairs)

same_test : (f : ℕ → ℕ) (x d : ℕ) → (f x ≡ f d → x ≡ d) → eqb (f x) (f d) ≡ eqb x d
same_test f x d one = grind arith

positions : (f : ℕ → ℕ) (d : ℕ) (xs : List ℕ) → All (λ x. f x ≡ f d → x ≡ d) xs →
    position_or_len (λ y. y == f d) (map f xs) ≡ position_or_len (λ x. x == d) xs
positions f d [] h = refl
positions f d (x ∷ xs) h =
    let same : (f x == f d) ≡ (x == d) = same_test f x d (All-head (λ v. f v ≡ f d → v ≡ d) x xs h) in
    let rest : prefix_len (λ y. not (y == f d)) (map f xs) ≡ prefix_len (λ y. not (y == d)) xs =
    positions f d xs (All-tail (λ v. f v ≡ f d → v ≡ d) x xs h) in
    ap₂ {A = Bool} (λ b n. cond (not b) (1 + n) 0) same rest

-- what follows in the picture of a list is the picture of what follows
pub followed : (f : ℕ → ℕ) (d : ℕ) (xs : List ℕ) → 0 < length xs → All (λ x. f x ≡ f d → x ≡ d) xs →
    following (map f xs) (f d) ≡ f (following xs d)
unfolding following
followed f d xs some h = grind (arith, positions, length-map, get_or-map)

module _ (inst : Ising) (good : IsInstance inst) (spins bonds : List ℕ) (part : IsClosedPart inst spins bonds) where
  -- the part as an instance
  abbrev small : Ising
  small = restricted inst spins bonds

  -- the part has two darts for each of its bonds
  pub darts_in_part : dart_count small ≡ 2 * length bonds
  darts_in_part = ap (λ m. 2 * m) (length-map bonds (λ k. bond_in spins (bond_at inst k)))

  -- a dart leaves a spin of the part exactly where its bond is one of the part
  pub tail_in_part : (d : ℕ) → d < dart_count inst → holds spins (tail inst d) ≡ holds bonds (d / 2)
  tail_in_part d l = grind (arith, tail_cases)

  -- a dart of the part belongs to one of its bonds in the whole
  pub whole_bond : (e : ℕ) → e < 2 * length bonds → holds bonds (whole_dart bonds e / 2) ≡ true
  whole_bond e l = ap (holds bonds) (lifted_half (λ k. get_or bonds k 0) e) ∙ holds_entry bonds (e / 2) (omega arith)

  -- and is a dart of the whole
  pub whole_below : (e : ℕ) → e < 2 * length bonds → whole_dart bonds e < dart_count inst
  whole_below e l = let b : whole_dart bonds e / 2 < bond_count inst = part.bonds_below (whole_dart bonds e / 2) (whole_bond e l) in omega (arith, b)

  -- the two numberings of the darts undo each other
  pub part_of_whole : (e : ℕ) → e < 2 * length bonds → dart_in bonds (whole_dart bonds e) ≡ e
  part_of_whole e l = lifted_back (λ k. get_or bonds k 0) (place_in bonds) e (place_of_entry bonds part.bonds_rise (e / 2) (omega arith))

  -- a dart of the whole, numbered in the part and back
  pub whole_of_part : (d : ℕ) → holds bonds (d / 2) ≡ true → whole_dart bonds (dart_in bonds d) ≡ d
  whole_of_part d h = lifted_back (place_in bonds) (λ k. get_or bonds k 0) d (entry_back bonds part.bonds_rise (d / 2) h)

  -- a dart of a bond of the part has a number in it
  pub part_below : (d : ℕ) → holds bonds (d / 2) ≡ true → dart_in bonds d < 2 * length bonds
  part_below d h = let b : place_in bonds (d / 2) < length bonds = place_below bonds part.bonds_rise (d / 2) h in omega (arith, b)

  bond_in_part : (k : ℕ) → k < length bonds → bond_at small k ≡ bond_in spins (bond_at inst (get_or bonds k 0))
  bond_in_part k l = get_or-map (λ k. bond_in spins (bond_at inst k)) bonds k 0 (record { u = 0; v = 0; j = pos 0 }) l

  -- a dart of the part leaves the spin at the place of the one that it leaves in the whole
  pub part_tail : (e : ℕ) → e < 2 * length bonds → tail small e ≡ place_in spins (tail inst (whole_dart bonds e))
  part_tail e l = grind (arith, tail_even, bond_in_part, tail_odd)

  -- the list of a spin is that of the whole, renumbered
  pub part_darts : (i : ℕ) → i < length spins → darts_of small i ≡ map (dart_in bonds) (darts_of inst (get_or spins i 0))
  part_darts i l = get_or-map (λ i. map (dart_in bonds) (darts_of inst i)) spins i 0 [] l

  -- the bonds of the darts of a spin of the part are bonds of the part
  pub listed_bond : (s : ℕ) → holds spins s ≡ true → All (λ d. holds bonds (d / 2) ≡ true) (darts_of inst s)
  listed_bond s h =
      All-from_get_or (λ d. holds bonds (d / 2) ≡ true) (darts_of inst s) 0
      (λ j b. sym (tail_in_part (get_or (darts_of inst s) j 0) (in_list inst good s j (part.spins_below s h) b).0) ∙ ap (holds spins)
      (in_list inst good s j (part.spins_below s h) b).1 ∙ h)

  each_dart_once : (i d : ℕ) → i < length spins → count_by (λ x. eqb x d) (darts_of small i) ≡ cond (is_dart_of small i d) 1 0
  each_dart_once i d l =
      ap (count_by (λ x. eqb x d)) (part_darts i l) ∙ sum_by-map_of (λ x. cond {A = ℕ} (eqb x d) 1 0) (dart_in bonds) (darts_of inst s)
      ∙ elim (cases_lt d (2 * length bonds)) [ inl b ↦ inside b | inr past ↦ outside past ]
    where
      s : ℕ
      s = get_or spins i 0

      held : holds spins s ≡ true
      held = holds_entry spins i l

      inside : d < 2 * length bonds → count_by (λ x. eqb (dart_in bonds x) d) (darts_of inst s) ≡ cond (is_dart_of small i d) 1 0
      inside b =
          sum_by-same (λ x. cond {A = ℕ} (eqb (dart_in bonds x) d) 1 0) (λ x. cond {A = ℕ} (eqb x w) 1 0) (darts_of inst s)
          (λ j e q. one (get_or (darts_of inst s) j e) (listed_bond s held j e q))
          ∙ good.rotation.each_once s w (part.spins_below s held) ∙ ap (λ b. cond {A = ℕ} b 1 0) tests
        where
          w : ℕ
          w = whole_dart bonds d

          one : (x : ℕ) → holds bonds (x / 2) ≡ true → cond {A = ℕ} (eqb (dart_in bonds x) d) 1 0 ≡ cond (eqb x w) 1 0
          one x h = grind (arith, whole_of_part, part_of_whole)

          tests : is_dart_of inst s w ≡ is_dart_of small i d
          tests = like_tests (is_dart_of inst s w) (is_dart_of small i d)
              (λ t. is_dart_of-from small i d (omega (arith, b, darts_in_part))
              (part_tail d b ∙ ap (place_in spins) (is_dart_of-parts inst s w t).1 ∙ place_of_entry spins part.spins_rise i l))
              (λ t. is_dart_of-from inst s w (whole_below d b)
              (places_apart spins part.spins_rise (tail inst w) s (tail_in_part w (whole_below d b) ∙ whole_bond d b) held
              (sym (part_tail d b) ∙ (is_dart_of-parts small i d t).1 ∙ sym (place_of_entry spins part.spins_rise i l))))

      outside : 2 * length bonds ≤ d → count_by (λ x. eqb (dart_in bonds x) d) (darts_of inst s) ≡ cond (is_dart_of small i d) 1 0
      outside past =
          none (darts_of inst s) (listed_bond s held)
          ∙ ap (λ b. cond {A = ℕ} b 1 0)
          (sym (false_from_ne_true (is_dart_of small i d)
          (λ t. (let b : d < dart_count small = (is_dart_of-parts small i d t).0 in let never : ⊥ = omega (arith, b, darts_in_part) in never))))
        where
          none : (xs : List ℕ) → All (λ x. holds bonds (x / 2) ≡ true) xs → count_by (λ x. eqb (dart_in bonds x) d) xs ≡ 0
          none [] h = refl
          none (x ∷ xs) h =
              let b : dart_in bonds x < 2 * length bonds = part_below x (All-head (λ x. holds bonds (x / 2) ≡ true) x xs h) in
              let other : eqb (dart_in bonds x) d ≡ false =
              false_from_ne_true (eqb (dart_in bonds x) d)
              (λ t. (let e : dart_in bonds x ≡ d = eqb-true (dart_in bonds x) d t in let never : ⊥ = omega (arith, e, b) in never)) in
              sum_by-cons (λ y. cond {A = ℕ} (eqb (dart_in bonds y) d) 1 0) x xs
              ∙ ap₂ {A = ℕ} (λ a b. a + b) (ap (λ b. cond {A = ℕ} b 1 0) other) (none xs (All-tail (λ x. holds bonds (x / 2) ≡ true) x xs h))

  -- a part is an instance
  pub part_instance : IsInstance small
  part_instance = record {
    draft = record {
      has_spin = omega (arith, part.some);
      few_spins = omega (arith, rising_few spins inst.n part.spins_rise part.spins_below, good.draft.few_spins);
      few_bonds =
          omega (
            arith,
            rising_few bonds (bond_count inst) part.bonds_rise part.bonds_below,
            good.draft.few_bonds,
            length-map bonds
                (λ k. bond_in spins (bond_at inst k)),
          );
      joined = All-map (IsBond (length spins)) (λ k. bond_in spins (bond_at inst k)) bonds
          (All-from_get_or (λ k. IsBond (length spins) (bond_in spins (bond_at inst k))) bonds 0 (λ j b. is_bond (get_or bonds j 0) (holds_entry bonds j b)));
      lists = length-map spins (λ i. map (dart_in bonds) (darts_of inst i));
    };
    rotation = record { lists = length-map spins (λ i. map (dart_in bonds) (darts_of inst i)); each_once = each_dart_once };
    seam = record { below = λ k d l. absurd (omega arith); distinct = λ x. omega arith };
  }
    where
      is_bond : (k : ℕ) → holds bonds k ≡ true → IsBond (length spins) (bond_in spins (bond_at inst k))
      is_bond k h = grind (arith, place_below, places_apart, part.bonds_below, inst.n, good.draft.joined, part.first_end, part.second_end, part.spins_rise)

  -- ---- faces

  -- the dart of the whole leaves a spin of the part
  whole_tail : (e : ℕ) → e < 2 * length bonds → holds spins (tail inst (whole_dart bonds e)) ≡ true
  whole_tail e l = grind (arith, tail_in_part, whole_below, whole_bond)

  -- the next dart in the part is the next one in the whole
  pub part_next : (e : ℕ) → e < 2 * length bonds → whole_dart bonds (next small e) ≡ next inst (whole_dart bonds e)
  part_next e l =
      ap (whole_dart bonds) (next_is small part_instance e ∙ ap₂ (λ xs d. following xs d) list (sym (part_of_whole e l))
      ∙ followed (dart_in bonds) w (darts_of inst t) some one ∙ ap (dart_in bonds) (sym (next_is inst good w)))
      ∙ whole_of_part (next inst w)
      (sym (tail_in_part (next inst w) ahead.0) ∙ ap (holds spins) ahead.1 ∙ held)
    where
      w : ℕ
      w = whole_dart bonds e

      wl : w < dart_count inst
      wl = whole_below e l

      t : ℕ
      t = tail inst w

      held : holds spins t ≡ true
      held = whole_tail e l

      ahead : (next inst w < dart_count inst) × (tail inst (next inst w) ≡ t)
      ahead = next_in_list inst good w wl

      list : darts_of small (tail small e) ≡ map (dart_in bonds) (darts_of inst t)
      list = grind (arith, part_tail, part_darts, place_below, held, entry_back, spins, part.spins_rise, inst)

      some : 0 < length (darts_of inst t)
      some = let p : (j : ℕ) × (j < length (darts_of inst t)) × (get_or (darts_of inst t) j 0 ≡ w) = place_of inst good w wl in omega (arith, p.1)

      one : All (λ x. dart_in bonds x ≡ dart_in bonds w → x ≡ w) (darts_of inst t)
      one j d b same =
          sym (whole_of_part (get_or (darts_of inst t) j d) (listed_bond t held j d b))
          ∙ ap (whole_dart bonds) same ∙ whole_of_part w (whole_bond e l)

  -- and so is the next on the face
  pub part_phi : (e : ℕ) → e < 2 * length bonds → whole_dart bonds (phi small e) ≡ phi inst (whole_dart bonds e)
  part_phi e l =
      part_next (rev e) (let b : rev e < dart_count small = rev_below small e (omega (arith, l, darts_in_part)) in omega (arith, b, darts_in_part))
      ∙ ap (next inst) (sym (lifted_rev (λ k. get_or bonds k 0) e))

  steps_in_part : (j e : ℕ) → e < 2 * length bonds → steps small j e < 2 * length bonds
  steps_in_part j e l = grind (arith, face_steps_below, part_instance, darts_in_part)

  -- and so after any number of steps
  pub part_steps : (j e : ℕ) → e < 2 * length bonds → whole_dart bonds (steps small j e) ≡ steps inst j (whole_dart bonds e)
  part_steps zero e l = refl
  part_steps (suc j) e l = part_phi (steps small j e) (steps_in_part j e l) ∙ ap (phi inst) (part_steps j e l)

  -- the darts_in_part keep their order
  whole_less : (d e : ℕ) → d < e → e < 2 * length bonds → whole_dart bonds d < whole_dart bonds e
  whole_less d e l b = grind (arith, rising_order)

  whole_keeps : (d e : ℕ) → d ≤ e → e < 2 * length bonds → whole_dart bonds d ≤ whole_dart bonds e
  whole_keeps d e l b = elim (cases_eq d e) [
    | inl same ↦ omega (arith, ap (whole_dart bonds) same)
    | inr ne ↦ (let less : whole_dart bonds d < whole_dart bonds e = whole_less d e (omega (arith, l, ne)) b in omega (arith, less))
  ]

  whole_back : (d e : ℕ) → d < 2 * length bonds → whole_dart bonds d ≤ whole_dart bonds e → d ≤ e
  whole_back d e b l = elim (cases_lt e d) [
    | inl past ↦ (let less : whole_dart bonds e < whole_dart bonds d = whole_less e d past b in absurd (omega (arith, less, l)))
    | inr keeps ↦ keeps
  ]

  -- the least dart of a face is the least in the whole
  pub part_least : (e : ℕ) → e < 2 * length bonds → is_least small e ≡ is_least inst (whole_dart bonds e)
  part_least e l = like_tests (is_least small e) (is_least inst w) there back
    where
      w : ℕ
      w = whole_dart bonds e

      wl : w < dart_count inst
      wl = whole_below e l

      el : e < dart_count small
      el = omega (arith, l, darts_in_part)

      there : is_least small e ≡ true → is_least inst w ≡ true
      there h = (least_of_face inst good w wl).1 (λ x s. at_steps x s.0 s.1)
        where
          at_steps : (x j : ℕ) → steps inst j w ≡ x → w ≤ x
          at_steps x j is =
              let low : e ≤ steps small j e = (least_of_face small part_instance e el).0 h (steps small j e) (j, refl) in
              let up : w ≤ whole_dart bonds (steps small j e) = whole_keeps e (steps small j e) low (steps_in_part j e l) in
              omega (arith, up, part_steps j e l, is)

      back : is_least inst w ≡ true → is_least small e ≡ true
      back h = (least_of_face small part_instance e el).1 (λ x s. at_steps x s.0 s.1)
        where
          at_steps : (x j : ℕ) → steps small j e ≡ x → e ≤ x
          at_steps x j is =
              let up : w ≤ steps inst j w = (least_of_face inst good w wl).0 h (steps inst j w) (j, refl) in
              let low : e ≤ steps small j e = whole_back e (steps small j e) l (omega (arith, up, part_steps j e l)) in
              omega (arith, low, is)

  -- a spin without bonds has none in the whole
  pub part_bare : (i : ℕ) → i < length spins → is_bare small i ≡ is_bare inst (get_or spins i 0)
  part_bare i l =
      like_tests (is_bare small i) (is_bare inst s)
      (λ h. (bare_means inst s).1 (λ d b e. there h d b e))
      (λ h. (bare_means small i).1 (λ e b t. back h e b t))
    where
      s : ℕ
      s = get_or spins i 0

      held : holds spins s ≡ true
      held = holds_entry spins i l

      there : is_bare small i ≡ true → (d : ℕ) → d < dart_count inst → tail inst d ≡ s → ⊥
      there h d b e =
          let inside : holds bonds (d / 2) ≡ true = sym (tail_in_part d b) ∙ ap (holds spins) e ∙ held in
          let low : dart_in bonds d < 2 * length bonds = part_below d inside in
          (bare_means small i).0 h (dart_in bonds d) (omega (arith, low, darts_in_part))
          (part_tail (dart_in bonds d) low ∙ ap (λ x. place_in spins (tail inst x))
          (whole_of_part d inside)
          ∙ ap (place_in spins) e ∙ place_of_entry spins part.spins_rise i l)

      back : is_bare inst s ≡ true → (e : ℕ) → e < dart_count small → tail small e ≡ i → ⊥
      back h e b t =
          let low : e < 2 * length bonds = omega (arith, b, darts_in_part) in
          (bare_means inst s).0 h (whole_dart bonds e) (whole_below e low)
          (places_apart spins part.spins_rise (tail inst (whole_dart bonds e)) s (whole_tail e low) held
          (sym (part_tail e low) ∙ t ∙ sym (place_of_entry spins part.spins_rise i l)))

  -- the faces of a part are those that the whole has on its bonds and at its spins
  pub part_faces : face_count small ≡ sum_by (least_sides inst) bonds + sum_by (bare_spins inst) spins
  part_faces =
      faces_by_bonds small
      ∙ ap₂ {A = ℕ} (λ a b. a + b)
      (ap (sum_below (least_sides small)) (length-map bonds (λ k. bond_in spins (bond_at inst k)))
      ∙ sum_below-same (least_sides small) (λ k. least_sides inst (get_or bonds k 0)) (length bonds) sides
      ∙ sym (sum_by_is_sum_below (least_sides inst) bonds 0))
      (sum_below-same (bare_spins small) (λ i. bare_spins inst (get_or spins i 0)) (length spins) (λ i l. ap (λ b. cond {A = ℕ} b 1 0) (part_bare i l))
      ∙ sym (sum_by_is_sum_below (bare_spins inst) spins 0))
    where
      sides : (k : ℕ) → k < length bonds → least_sides small k ≡ least_sides inst (get_or bonds k 0)
      sides k l = ap₂ {A = Bool} (λ a b. cond {A = ℕ} a 1 0 + cond b 1 0)
          (part_least (2 * k) (omega arith) ∙ ap (is_least inst) (lifted_first (λ k. get_or bonds k 0) k))
          (part_least (2 * k + 1) (omega arith) ∙ ap (is_least inst) (lifted_second (λ k. get_or bonds k 0) k))

  -- ---- walks

  -- bond k of the whole, in the part
  bond_kept : (k : ℕ) → holds bonds k ≡ true → bond_at small (place_in bonds k) ≡ bond_in spins (bond_at inst k)
  bond_kept k h =
      get_or-map (λ k. bond_in spins (bond_at inst k)) bonds (place_in bonds k) 0 (record { u = 0; v = 0; j = pos 0 }) (place_below bonds part.bonds_rise k h)
      ∙ ap (λ i. bond_in spins (bond_at inst i)) (entry_back bonds part.bonds_rise k h)

  held_bond : (a b : ℕ) (j : JoinedBy inst all_bonds a b) → holds spins a ≡ true → holds bonds j.bond ≡ true
  held_bond a b j h = grind arith

  -- a bond from a spin of the part leads to one of the part
  pub stays_in_part : (a b : ℕ) → JoinedBy inst all_bonds a b → holds spins a ≡ true → holds spins b ≡ true
  stays_in_part a b j h = grind arith

  joined_in_part : (a b : ℕ) → JoinedBy inst all_bonds a b → holds spins a ≡ true →
      JoinedBy small all_bonds (place_in spins a) (place_in spins b)
  joined_in_part a b j h = record {
    bond = place_in bonds j.bond;
    below = omega (arith, place_below bonds part.bonds_rise j.bond held, length-map bonds (λ k. bond_in spins (bond_at inst k)));
    in_set = refl;
    ends = at_end j.ends;
  }
    where
      held : holds bonds j.bond ≡ true
      held = held_bond a b j h

      kept : bond_at small (place_in bonds j.bond) ≡ bond_in spins (bond_at inst j.bond)
      kept = bond_kept j.bond held

      at_end : HasEnds inst j.bond a b ⊎ HasEnds inst j.bond b a →
          HasEnds small (place_in bonds j.bond) (place_in spins a) (place_in spins b)
          ⊎ HasEnds small (place_in bonds j.bond) (place_in spins b) (place_in spins a)
      at_end (inl e) = inl (ap (λ b. b.u) kept ∙ ap (place_in spins) e.0, ap (λ b. b.v) kept ∙ ap (place_in spins) e.1)
      at_end (inr e) = inr (ap (λ b. b.u) kept ∙ ap (place_in spins) e.0, ap (λ b. b.v) kept ∙ ap (place_in spins) e.1)

  walk_in_part : (path : List ℕ) (a b : ℕ) → IsWalk inst all_bonds a path b → holds spins a ≡ true →
      IsWalk small all_bonds (place_in spins a) (map (place_in spins) path) (place_in spins b)
  walk_in_part [] a b w h = ap (place_in spins) w
  walk_in_part (c ∷ path) a b w h = (joined_in_part a c w.0 h, walk_in_part path c b w.1 (stays_in_part a c w.0 h))

  -- where the first spin of a part reaches the others, the part is connected
  pub part_connected : (first : ℕ) → holds spins first ≡ true → place_in spins first ≡ 0 →
      ((x : ℕ) → holds spins x ≡ true → Reached inst all_bonds first x) → IsConnected small
  part_connected first h zeroth reach i l =
      let x : ℕ = get_or spins i 0 in
      let r : Reached inst all_bonds first x = reach x (holds_entry spins i l) in
      let w : IsWalk small all_bonds (place_in spins first) (map (place_in spins) r.0)
      (place_in spins x) = walk_in_part r.0 first x r.1 h in (
        map (place_in spins) r.0,
        subst (λ a. IsWalk small all_bonds a (map (place_in spins) r.0) i) zeroth
            (subst (IsWalk small all_bonds (place_in spins first) (map (place_in spins) r.0))
            (place_of_entry spins part.spins_rise i l) w),
      )
