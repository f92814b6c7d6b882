-- Lists whose entries are all in place: they hold allowed numbers alone, and each of them at most once.
use Rattle.std.proofs.Common.{◌≡◌, ℕ, zero, suc, ◌+◌, ◌<◌, ◌≤◌, Bool, true, false, cond, ◌||◌, eqb, List, length, get_or, take, refl, sym, ◌∙◌, ap, subst}
use Rattle.std.proofs.Common.{count_by, arith, Any, take_all, eqb-true}
use Rattle.std.proofs.lemmas.List.{get_or_read}
use Rattle.std.proofs.lemmas.List.Folds.{list_any_more, Any-from_list_any}
use Rattle.std.proofs.lemmas.List.Sums.{sum_by_more}
use Rattle.sg_base.specs.Sets.{holds}
use Rattle.sg_model.specs.Misplaced.{IsInPlace}

-- a number that a list holds has a place there
pub place_held : (xs : List ℕ) (d : ℕ) → holds xs d ≡ true → (k : ℕ) × (k < length xs) × (get_or xs k 0 ≡ d)
place_held xs d h =
    let found : Any (λ x. eqb x d ≡ true) xs = Any-from_list_any (λ y. eqb y d) xs h in
    (found.0, found.2, sym (get_or_read xs found.0 found.1 found.2 (sym found.3) 0) ∙ eqb-true found.1 d found.4)

module _ (allowed : ℕ → Bool) (xs : List ℕ) (good : IsInPlace allowed xs) where
  -- what the test of the entry at j says
  pub in_place-parts : (j : ℕ) → j < length xs → (allowed (get_or xs j 0) ≡ true) × (holds (take j xs) (get_or xs j 0) ≡ false)
  in_place-parts j l = grind arith

  step : (h e : Bool) (n : ℕ) → n ≡ cond h 1 0 → (e ≡ true → h ≡ false) → n + cond e 1 0 ≡ cond (h || e) 1 0
  step h e n a b = grind arith

  count_before : (d j : ℕ) → j ≤ length xs → count_by (λ x. eqb x d) (take j xs) ≡ cond (holds (take j xs) d) 1 0
  count_before d zero l = refl
  count_before d (suc j) l =
      let more : count_by (λ x. eqb x d) (take (j + 1) xs) ≡ count_by (λ x. eqb x d) (take j xs) + cond (eqb (get_or xs j 0) d) 1 0 =
      sum_by_more (λ x. cond (eqb x d) 1 0) xs j 0 (omega arith) in
      let once : eqb (get_or xs j 0) d ≡ true → holds (take j xs) d ≡ false =
      λ (e : eqb (get_or xs j 0) d ≡ true). ap (holds (take j xs)) (sym (eqb-true (get_or xs j 0) d e)) ∙ (in_place-parts j (omega arith)).1 in
      let one : j + 1 ≡ suc j = omega arith in
      ap (λ n. count_by (λ x. eqb x d) (take n xs)) (sym one) ∙ more
      ∙ step (holds (take j xs) d) (eqb (get_or xs j 0) d) (count_by (λ x. eqb x d) (take j xs)) (count_before d j (omega arith)) once
      ∙ ap (λ b. cond {A = ℕ} b 1 0) (sym (list_any_more (λ y. eqb y d) xs j 0 (omega arith))) ∙ ap (λ n. cond {A = ℕ} (holds (take n xs) d) 1 0) one

  -- each number that the list holds stands there once
  pub count_in_place : (d : ℕ) → count_by (λ x. eqb x d) xs ≡ cond (holds xs d) 1 0
  count_in_place d =
      subst (λ ys. count_by (λ x. eqb x d) ys ≡ cond (holds ys d) 1 0) (take_all (length xs) xs (omega arith)) (count_before d (length xs) (omega arith))

  -- and only allowed numbers stand there
  held_allowed : (d : ℕ) → holds xs d ≡ true → allowed d ≡ true
  held_allowed d h = let p : (k : ℕ) × (k < length xs) × (get_or xs k 0 ≡ d) = place_held xs d h in ap allowed (sym p.2) ∙ (in_place-parts p.0 p.1).0

  same : (h a : Bool) → (h ≡ true → a ≡ true) → (a ≡ true → h ≡ true) → h ≡ a
  same h a there back = grind arith

  -- where the list holds all allowed numbers, it holds each of them once and nothing else
  pub each_once_in_place : ((d : ℕ) → allowed d ≡ true → holds xs d ≡ true) → (d : ℕ) → count_by (λ x. eqb x d) xs ≡ cond (allowed d) 1 0
  each_once_in_place whole d = count_in_place d ∙ ap (λ b. cond {A = ℕ} b 1 0) (same (holds xs d) (allowed d) (held_allowed d) (whole d))
