-- Lists of different numbers, and lists with one entry more.
use Rattle.std.proofs.Common.{ap, ◌≡◌, ◌≢◌, ℕ, suc, ◌<◌, ◌≤◌, false, eqb, List, [], ◌∷◌, length, get_or, sym, subst, arith, ◌⊎◌, ◌++◌}
use Rattle.std.proofs.Common.{◌∙◌, inl, inr, length-append}
use Rattle.std.specs.List.{AllByRecursion, IsDistinct}
use Rattle.std.proofs.lemmas.Bool.{cases_lt, eqb-true, ne_eqb}
use Rattle.std.proofs.lemmas.List.{get_or_append_left}
use Rattle.std.proofs.Math.Seq.{get_or-append_seam}
use Rattle.std.proofs.lemmas.Map.Keys.{IsDistinct-cons}
use Rattle.std.proofs.lemmas.Map.Steps.{length-le_from_distinct_below}
use Rattle.sg_base.proofs.ListLaws.{place_of_any}

-- a number that differs from each entry
apart : (x : ℕ) (xs : List ℕ) → ((i : ℕ) → i < length xs → x ≢ get_or xs i 0) → AllByRecursion (λ y. eqb x y ≡ false) xs
apart x [] other = tt
apart x (y ∷ ys) other = (ne_eqb x y (other 0 (omega arith)), apart x ys (λ i low. other (suc i) (omega arith)))

none : IsDistinct eqb []
unfolding IsDistinct
none = tt

-- entries that differ by place are distinct
distinct : (xs : List ℕ) → ((i j : ℕ) → i < length xs → j < length xs → get_or xs i 0 ≡ get_or xs j 0 → i ≡ j) → IsDistinct eqb xs
distinct [] differ = none
distinct (x ∷ xs) differ =
    IsDistinct-cons eqb x xs
    (apart x xs (λ i low same. positive i (differ 0 (suc i) (omega arith) (omega arith) same)))
    (distinct xs (λ i j low_i low_j same. let e : suc i ≡ suc j = differ (suc i) (suc j) (omega arith) (omega arith) same in omega arith))
  where
    positive : (i : ℕ) → 0 ≢ suc i
    positive i e = omega arith

-- different numbers below n are at most n
pub short : (xs : List ℕ) (n : ℕ) → ((i j : ℕ) → i < length xs → j < length xs → get_or xs i 0 ≡ get_or xs j 0 → i ≡ j) →
    ((i : ℕ) → i < length xs → get_or xs i 0 < n) → length xs ≤ n
short xs n differ below =
    length-le_from_distinct_below xs n (distinct xs differ) (λ q found.
    let at = place_of_any (eqb q) xs 0 found in
    subst (λ y. y < n) (sym (eqb-true q (get_or xs at.0 0) at.2)) (below at.0 at.1))

-- an index of a list with one entry more
pub at_end : {X : Type 0} (xs : List X) (y d : X) (k : ℕ) → k < length (xs ++ y ∷ []) → ((k < length xs) × (get_or (xs ++ y ∷ []) k d ≡ get_or xs k d)) ⊎
    ((k ≡ length xs) × (get_or (xs ++ y ∷ []) k d ≡ y))
at_end xs y d k low =
    elim (cases_lt k (length xs)) [
      | inl less ↦ inl (less, get_or_append_left xs (y ∷ []) d k less)
      | inr more ↦
          let same : k ≡ length xs = omega (arith, low, more, length-append xs (y ∷ [])) in
          inr (same, ap (λ n. get_or (xs ++ y ∷ []) n d) same ∙ get_or-append_seam xs y [] d)
    ]
