-- A one-to-one map of the numbers below k into themselves has only cycles: each number comes back, within k steps.
use Rattle.std.proofs.Common.{inr, ◌≡◌, ◌≢◌, ◌⊎◌, ℕ, zero, suc, ◌+◌, ◌-◌, ◌*◌, ◌/◌, ◌%◌, ◌<◌, ◌≤◌, ◌↔◌, true, cond, eqb, leb, refl, sym, ◌∙◌, ap, arith, get_or}
use Rattle.std.specs.List.{range_with_len, list_all}
use Rattle.std.proofs.Math.Nat.{mod-lt}
use Rattle.std.proofs.lemmas.Bool.{cases_eq, le-leb, leb-true}
use Rattle.std.proofs.lemmas.List.FromFn.{length-range_with_len, get_or-range_with_len}
use Rattle.std.proofs.lemmas.List.Recursion.{and_at}
use Rattle.std.proofs.lemmas.List.Sums.{list_all-from_AllPass}
use Rattle.sg_faces.specs.Orbits.{after_steps, SameOrbit, is_least_of_orbit, IsOneToOne}

-- two of the first n values of g are equal
pub record Repeats (g : ℕ → ℕ) (n : ℕ) : Type 0 where
  pub first : ℕ
  pub second : ℕ
  pub before : first < second
  pub below : second < n
  pub equal : g first ≡ g second

-- one of the first n values of g is x, or none is
find : (g : ℕ → ℕ) (x n : ℕ) → ((i : ℕ) × (i < n) × (g i ≡ x)) ⊎ ((i : ℕ) → i < n → g i ≢ x)
find g x zero = inr (λ i l. absurd (omega arith))
find g x (suc n) = grind (arith, cases_eq (g n) x, find g x n)

-- more than k numbers below k are not all different (the pigeonhole principle)
pub pigeonhole : (k : ℕ) (g : ℕ → ℕ) → ((i : ℕ) → i < k + 1 → g i < k) → Repeats g (k + 1)
pigeonhole zero g low = absurd (omega (arith, low 0 (omega arith)))
pigeonhole (suc k) g low = by_last (find g (g (suc k)) (suc k)) (pigeonhole k moved)
  where
    -- the last value stands in for k
    moved : ℕ → ℕ
    moved i = cond (eqb (g i) k) (g (suc k)) (g i)

    by_last : ((i : ℕ) × (i < suc k) × (g i ≡ g (suc k))) ⊎ ((i : ℕ) → i < suc k → g i ≢ g (suc k)) →
        (((i : ℕ) → i < k + 1 → moved i < k) → Repeats moved (k + 1)) → Repeats g (suc k + 1)
    by_last here before = grind arith

-- steps behind steps
pub steps_add : (f : ℕ → ℕ) (i j d : ℕ) → after_steps f i (after_steps f j d) ≡ after_steps f (i + j) d
steps_add f zero j d = let e : 0 + j ≡ j = omega arith in ap (λ k. after_steps f k d) (sym e)
steps_add f (suc i) j d = let e : suc i + j ≡ suc (i + j) = omega arith in ap f (steps_add f i j d) ∙ ap (λ k. after_steps f k d) (sym e)

module _ (f : ℕ → ℕ) (k : ℕ) (move : IsOneToOne f k) where
  -- steps of a map below k stay below k
  pub steps_below : (j d : ℕ) → d < k → after_steps f j d < k
  steps_below zero d l = l
  steps_below (suc j) d l = move.below (after_steps f j d) (steps_below j d l)

  -- where two numbers of steps lead to one number, the difference leads back
  pub steps_back : (i j d : ℕ) → d < k → after_steps f i d ≡ after_steps f (i + j) d → after_steps f j d ≡ d
  steps_back zero j d l e = let z : 0 + j ≡ j = omega arith in sym (e ∙ ap (λ n. after_steps f n d) z)
  steps_back (suc i) j d l e =
      let s : suc i + j ≡ suc (i + j) = omega arith in
      steps_back i j d l
      (move.apart (after_steps f i d) (after_steps f (i + j) d) (steps_below i d l) (steps_below (i + j) d l) (e ∙ ap (λ n. after_steps f n d) s))

  -- each number lies on a cycle of at most k steps
  pub cycle : (d : ℕ) → d < k → (p : ℕ) × (0 < p) × (p ≤ k) × (after_steps f p d ≡ d)
  cycle d l =
      let r : Repeats (λ i. after_steps f i d) (k + 1) = pigeonhole k (λ i. after_steps f i d) (λ i b. steps_below i d l) in
      let s : r.first + (r.second - r.first) ≡ r.second = omega (arith, r.before) in (
        r.second - r.first,
        omega (arith, r.before),
        omega (arith, r.below),
        steps_back r.first (r.second - r.first) d l
            (r.equal ∙ ap (λ n. after_steps f n d) (sym s)),
      )

  -- whole rounds lead nowhere
  rounds : (p d : ℕ) → after_steps f p d ≡ d → (q : ℕ) → after_steps f (p * q) d ≡ d
  rounds p d e zero = let z : p * 0 ≡ 0 = omega arith in ap (λ n. after_steps f n d) z
  rounds p d e (suc q) = grind (arith, rounds p d e q, steps_add)

  -- fewer than k steps lead to each number of an orbit
  pub short_way : (j d : ℕ) → d < k → (i : ℕ) × (i < k) × (after_steps f i d ≡ after_steps f j d)
  short_way j d l =
      let c : (p : ℕ) × (0 < p) × (p ≤ k) × (after_steps f p d ≡ d) = cycle d l in
      let low : j % c.0 < c.0 = mod-lt j c.1 in
      let whole : j ≡ j % c.0 + c.0 * (j / c.0) = omega arith in (
        j % c.0,
        omega arith,
        sym (ap (λ n. after_steps f n d) whole ∙ sym (steps_add f (j % c.0) (c.0 * (j / c.0)) d)
            ∙ ap (after_steps f (j % c.0)) (rounds c.0 d c.3 (j / c.0))),
      )

  -- some number of steps leads back from where j steps lead
  pub way_back : (j d : ℕ) → d < k → SameOrbit f (after_steps f j d) d
  way_back j d l =
      let w : (i : ℕ) × (i < k) × (after_steps f i d ≡ after_steps f j d) = short_way j d l in
      let c : (p : ℕ) × (0 < p) × (p ≤ k) × (after_steps f p d ≡ d) = cycle d l in
      let s : SameOrbit f (after_steps f (j % c.0) d) d = rest c.0 (j % c.0) (omega arith) c.3 in
      let whole : j ≡ j % c.0 + c.0 * (j / c.0) = omega arith in
      let e : after_steps f j d ≡ after_steps f (j % c.0) d =
      ap (λ n. after_steps f n d) whole ∙ sym (steps_add f (j % c.0) (c.0 * (j / c.0)) d) ∙ ap (after_steps f (j % c.0)) (rounds c.0 d c.3 (j / c.0)) in
      (s.0, ap (after_steps f s.0) e ∙ s.1)
    where
      rest : (p i : ℕ) → i ≤ p → after_steps f p d ≡ d → SameOrbit f (after_steps f i d) d
      rest p i b e = let s : p - i + i ≡ p = omega arith in (p - i, steps_add f (p - i) i d ∙ ap (λ n. after_steps f n d) s ∙ e)

  -- to lie in one orbit is an equivalence
  pub orbit_symmetric : (d e : ℕ) → d < k → SameOrbit f d e → SameOrbit f e d
  orbit_symmetric d e l (j, h) = let b : SameOrbit f (after_steps f j d) d = way_back j d l in (b.0, ap (after_steps f b.0) (sym h) ∙ b.1)

  -- the bounded test of the least number means any number of steps
  pub least_means : (d : ℕ) → d < k → (is_least_of_orbit f k d ≡ true) ↔ ((e : ℕ) → SameOrbit f d e → d ≤ e)
  least_means d l = (there, back)
    where
      there : is_least_of_orbit f k d ≡ true → (e : ℕ) → SameOrbit f d e → d ≤ e
      there h e (j, s) =
          let w : (i : ℕ) × (i < k) × (after_steps f i d ≡ after_steps f j d) = short_way j d l in
          let place : get_or (range_with_len 0 k) w.0 0 ≡ w.0 = get_or-range_with_len 0 k w.0 0 w.1 ∙ omega arith in
          let passes : leb d (after_steps f (get_or (range_with_len 0 k) w.0 0) d) ≡ true =
          and_at (list_all (λ j. leb d (after_steps f j d))) (λ j. leb d (after_steps f j d)) refl (λ _ _. refl) (range_with_len 0 k) w.0 0
          (omega (arith, w.1, length-range_with_len 0 k)) h in
          omega (arith, leb-true d (after_steps f (get_or (range_with_len 0 k) w.0 0) d) passes, ap (λ j. after_steps f j d) place, w.2, s)

      back : ((e : ℕ) → SameOrbit f d e → d ≤ e) → is_least_of_orbit f k d ≡ true
      back h = list_all-from_AllPass (λ j. leb d (after_steps f j d)) (range_with_len 0 k)
          (λ i x b. le-leb d (after_steps f (get_or (range_with_len 0 k) i x) d)
          (h (after_steps f (get_or (range_with_len 0 k) i x) d) (get_or (range_with_len 0 k) i x, refl)))

-- two numbers on one orbit with a third are on one orbit
pub orbit_transitive : (f : ℕ → ℕ) (a b c : ℕ) → SameOrbit f a b → SameOrbit f b c → SameOrbit f a c
orbit_transitive f a b c (i, p) (j, q) = (j + i, sym (steps_add f j i a) ∙ ap (after_steps f j) p ∙ q)
