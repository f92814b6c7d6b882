-- The darts of a rotation: each stands in the list of the spin that it leaves, and `next` is one-to-one.
use Rattle.std.proofs.Common.{ap₂, subst, ◌≡◌, ◌⊎◌, ℕ, ◌+◌, ◌*◌, ◌%◌, ◌<◌, ◌≤◌, Bool, true, cond, eqb, ltb, refl, sym, ◌∙◌, ap, arith, length, get_or, count_by}
use Rattle.std.proofs.Math.Nat.{mod-lt}
use Rattle.std.proofs.lemmas.Bool.{eq-eqb, eqb-true, ltb-true, lt-ltb, and_parts, and_from}
use Rattle.sg_model.specs.Ising.{Ising}
use Rattle.sg_model.specs.Rotation.{dart_count, rev, tail, head_of, is_dart_of, darts_of, following, next}
use Rattle.sg_base.specs.Sets.{DifferByCount}
use Rattle.sg_model.specs.WellFormed.{IsInstance}
use Rattle.sg_model.proofs.Darts.{tail_first, tail_second}
use Rattle.sg_model.proofs.DartPairs.{dart_cases, rev_below}
use Rattle.sg_model.proofs.CyclicLists.{following_at, following_apart, place_from_count, count_at_place}

module _ (inst : Ising) (good : IsInstance inst) where
  one_or_none : (b : Bool) (n : ℕ) → n ≡ cond b 1 0 → n ≤ 1
  one_or_none b n h = grind arith

  -- no dart stands twice in the list of its spin
  pub spin_distinct : (i : ℕ) → i < inst.n → DifferByCount (darts_of inst i)
  spin_distinct i l x = one_or_none (is_dart_of inst i x) (count_by (λ y. eqb y x) (darts_of inst i)) (good.rotation.each_once i x l)

  is_dart_from : (i d : ℕ) → i < inst.n → 1 ≤ count_by (λ x. eqb x d) (darts_of inst i) → is_dart_of inst i d ≡ true
  is_dart_from i d l h = grind arith

  -- what stands in the list of spin i is a dart that leaves it
  pub in_list : (i j : ℕ) → i < inst.n → j < length (darts_of inst i) →
      (get_or (darts_of inst i) j 0 < dart_count inst) × (tail inst (get_or (darts_of inst i) j 0) ≡ i)
  in_list i j l b =
      let d : ℕ = get_or (darts_of inst i) j 0 in
      let both : (ltb d (dart_count inst) ≡ true) × (eqb (tail inst d) i ≡ true) =
      and_parts (ltb d (dart_count inst)) (eqb (tail inst d) i) (is_dart_from i d l (count_at_place (darts_of inst i) j b)) in
      (ltb-true d (dart_count inst) both.0, eqb-true (tail inst d) i both.1)

  -- a dart leaves a spin
  pub tail_below : (d : ℕ) → d < dart_count inst → tail inst d < inst.n
  tail_below d l = by_dart (dart_cases d)
    where
      by_dart : ((k : ℕ) × ((d ≡ 2 * k) ⊎ (d ≡ 2 * k + 1))) → tail inst d < inst.n
      by_dart h = grind (arith, tail_first, tail_second)

  -- and each dart stands in the list of the spin that it leaves
  pub place_of : (d : ℕ) → d < dart_count inst → (j : ℕ) × (j < length (darts_of inst (tail inst d))) × (get_or (darts_of inst (tail inst d))
      j 0 ≡ d)
  place_of d l =
      place_from_count d (darts_of inst (tail inst d))
      (omega (arith, good.rotation.each_once (tail inst d) d (tail_below d l), ap (λ b. cond {A = ℕ} b 1 0) is_one))
    where
      is_one : is_dart_of inst (tail inst d) d ≡ true
      is_one = and_from (ltb d (dart_count inst)) (eqb (tail inst d) (tail inst d)) (lt-ltb d (dart_count inst) l) (eq-eqb (tail inst d) (tail inst d) refl)

  -- the same, where the spin has another name
  pub place_at : (i d : ℕ) → d < dart_count inst → tail inst d ≡ i →
      (j : ℕ) × (j < length (darts_of inst i)) × (get_or (darts_of inst i) j 0 ≡ d)
  place_at i d l e = subst (λ i. (j : ℕ) × (j < length (darts_of inst i)) × (get_or (darts_of inst i) j 0 ≡ d)) e (place_of d l)

  -- the next dart is the one that follows in the list of its spin
  pub next_is : (d : ℕ) → next inst d ≡ following (darts_of inst (tail inst d)) d
  unfolding next
  next_is d = refl

  -- `next` leads to a dart of the same spin
  pub next_in_list : (d : ℕ) → d < dart_count inst → (next inst d < dart_count inst) × (tail inst (next inst d) ≡ tail inst d)
  next_in_list d l =
      let p : (j : ℕ) × (j < length (darts_of inst (tail inst d))) × (get_or (darts_of inst (tail inst d)) j 0 ≡ d) = place_of d l in
      at_place (tail inst d) (tail_below d l) p.0 p.1 p.2
    where
      at_place : (i : ℕ) → i < inst.n → (j : ℕ) → j < length (darts_of inst i) → get_or (darts_of inst i) j 0 ≡ d →
          (next inst d < dart_count inst) × (tail inst (next inst d) ≡ tail inst d)
      at_place i b j q e =
          let t : tail inst d ≡ i = ap (tail inst) (sym e) ∙ (in_list i j b q).1 in
          let k : ℕ = (j + 1) % length (darts_of inst i) in
          let kb : k < length (darts_of inst i) = mod-lt (j + 1) (omega arith) in
          let same : next inst d ≡ get_or (darts_of inst i) k 0 =
          next_is d ∙ ap₂ (λ x y. following (darts_of inst x) y) t (sym e) ∙ following_at (darts_of inst i) (spin_distinct i b) j q in
          (omega (arith, same, (in_list i k b kb).0), ap (tail inst) same ∙ (in_list i k b kb).1 ∙ sym t)

  -- different darts have different next ones
  pub next_apart : (a b : ℕ) → a < dart_count inst → b < dart_count inst → next inst a ≡ next inst b → a ≡ b
  next_apart a b la lb e = at_spin (tail inst a) (tail_below a la) (place_of a la) (place_at (tail inst a) b lb (sym tails)) refl
    where
      tails : tail inst a ≡ tail inst b
      tails = sym (next_in_list a la).1 ∙ ap (tail inst) e ∙ (next_in_list b lb).1

      at_spin : (i : ℕ) → i < inst.n → ((j : ℕ) × (j < length (darts_of inst i)) × (get_or (darts_of inst i) j 0 ≡ a)) →
          ((k : ℕ) × (k < length (darts_of inst i)) × (get_or (darts_of inst i) k 0 ≡ b)) → tail inst a ≡ i → a ≡ b
      at_spin i l (j, jl, ja) (k, kl, kb) t =
          let same : j ≡ k = following_apart (darts_of inst i) (spin_distinct i l) j k jl kl
          (ap (following (darts_of inst i)) ja ∙ ap (λ s. following (darts_of inst s) a) (sym t) ∙ sym (next_is a) ∙ e ∙ next_is b
          ∙ ap (λ s. following (darts_of inst s) b) (sym tails ∙ t) ∙ ap (following (darts_of inst i)) (sym kb)) in
          sym ja ∙ ap (λ x. get_or (darts_of inst i) x 0) same ∙ kb

  -- a dart leads to a spin
  pub head_below : (d : ℕ) → d < dart_count inst → head_of inst d < inst.n
  head_below d l = tail_below (rev d) (rev_below inst d l)
