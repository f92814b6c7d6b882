-- A rising list whose entries are all marked, and that is as long as there are marks, is the list of all that is marked.
use Rattle.std.proofs.Common.{◌≡◌, ◌∙◌, sym, refl, ℕ, zero, suc, ◌+◌, ◌<◌, ◌≤◌, Bool, true, false, cond, List, [], ◌∷◌, filter, length, count_by, arith, All}
use Rattle.std.specs.List.{range_with_len}
use Rattle.std.specs.List.Sorted.{IsStrictlyIncreasing}
use Rattle.std.proofs.lemmas.Bool.{cases_eq}
use Rattle.std.proofs.lemmas.List.Elements.{All-head, All-tail}
use Rattle.std.proofs.lemmas.List.Sums.{length-filter}
use Rattle.sg_base.specs.Sets.{RisesOver, chosen_below, is_marked}
use Rattle.sg_base.proofs.RisingLists.{rises_over_first}
use Rattle.sg_base.proofs.SumLaws.{sum_by_is_sum_below}
use Rattle.sg_base.proofs.DealtSums.{sum_by_range}

-- the first list is no longer, and is the second where it is no shorter
abbrev pub Fills : List ℕ → List ℕ → Type 0
Fills xs ys = (length xs ≤ length ys) × (length ys ≤ length xs → xs ≡ ys)

none : (ys : List ℕ) → Fills [] ys
none [] = (omega arith, λ l. refl)
none (y ∷ ys) = (omega arith, λ l. absurd (omega arith))

module _ (p : ℕ → Bool) where
  -- the entries rise from a on, are below b, and pass
  abbrev pub Climbs : ℕ → ℕ → List ℕ → Type 0
  Climbs a b [] = Unit {0}
  Climbs a b (x ∷ xs) = (a ≤ x) × (x < b) × (p x ≡ true) × Climbs (x + 1) b xs

  climbs_over : (a b : ℕ) (xs : List ℕ) → RisesOver a xs → All (λ x. x < b) xs → All (λ x. p x ≡ true) xs → Climbs (a + 1) b xs
  climbs_over a b [] up low pass = tt
  climbs_over a b (x ∷ xs) up low pass = (
    omega arith,
    All-head (λ x. x < b) x xs low,
    All-head (λ x. p x ≡ true) x xs pass,
    climbs_over x b xs up.1 (All-tail (λ x. x < b) x xs low) (All-tail (λ x. p x ≡ true) x xs pass),
  )

  climbs_from : (b : ℕ) (xs : List ℕ) → IsStrictlyIncreasing xs → All (λ x. x < b) xs → All (λ x. p x ≡ true) xs → Climbs 0 b xs
  climbs_from b [] up low pass = tt
  climbs_from b (x ∷ xs) up low pass = (
    omega arith,
    All-head (λ x. x < b) x xs low,
    All-head (λ x. p x ≡ true) x xs pass,
    climbs_over x b xs (rises_over_first x xs up) (All-tail (λ x. x < b) x xs low) (All-tail (λ x. p x ≡ true) x xs pass),
  )

  -- what climbs from a on fills what is chosen there
  climbs_fill : (n a b : ℕ) (xs : List ℕ) → a + n ≡ b → Climbs a b xs → Fills xs (filter p (range_with_len a n))
  climbs_fill zero a b [] e h = none []
  climbs_fill zero a b (x ∷ xs) e h = absurd (omega arith)
  climbs_fill (suc n) a b [] e h = none (filter p (range_with_len a (suc n)))
  climbs_fill (suc n) a b (x ∷ xs) e h = grind (arith, cases_eq a x, climbs_fill n (a + 1) b xs, climbs_fill n (a + 1) b (x ∷ xs))

-- as many places are chosen as there are marks
pub marked_is : (marks : List Bool) → count_by (λ b. b) marks ≡ length (chosen_below (is_marked marks) (length marks))
marked_is marks =
    sum_by_is_sum_below (λ b. cond b 1 0) marks false
    ∙ sym (sum_by_range (λ k. cond (is_marked marks k) 1 0) (length marks))
    ∙ sym (length-filter (is_marked marks) (range_with_len 0 (length marks)))

-- a rising list of marked places, as long as there are marks, has all marked places
pub lists_all : (marks : List Bool) (xs : List ℕ) → IsStrictlyIncreasing xs → All (λ k. k < length marks) xs → All (λ k. is_marked marks k ≡ true) xs
    → length xs ≡ count_by (λ b. b) marks → xs ≡ chosen_below (is_marked marks) (length marks)
lists_all marks xs up low pass many =
    let fills : Fills xs (chosen_below (is_marked marks) (length marks)) =
    climbs_fill (is_marked marks) (length marks) 0 (length marks) xs (omega arith) (climbs_from (is_marked marks) (length marks) xs up low pass) in
    fills.1 (omega (arith, many, marked_is marks))
