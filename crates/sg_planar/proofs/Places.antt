-- Places in a rising list of numbers: each number that it holds has one, and each place one number.
use Rattle.std.proofs.Common.{◌≡◌, ◌∙◌, sym, ap, refl, ℕ, ◌<◌, ◌≤◌, true, eqb, List, length, get_or, arith, cond, Bool, eq-eqb, ne_eqb}
use Rattle.std.proofs.lemmas.List.Elements.{All-from_get_or}
use Rattle.std.proofs.lemmas.List.Folds.{list_any_at}
use Rattle.std.proofs.lemmas.List.Sums.{position_or_len_is}
use Rattle.std.specs.List.Sorted.{IsStrictlyIncreasing}
use Rattle.sg_model.proofs.EachOnce.{place_held}
use Rattle.sg_planar.specs.Parts.{place_in}
use Rattle.sg_base.proofs.MemberSums.{members_sum}
use Rattle.sg_base.proofs.OneMore.{rising_order}
use Rattle.sg_base.proofs.RisingLists.{All-holds, chosen_below_low, holds-chosen_below}
use Rattle.sg_base.proofs.SumLaws.{sum_by_is_sum_below, sum_below-le}
use Rattle.sg_base.proofs.Tallies.{sum_below_ones, cond_small}
use Rattle.sg_base.specs.Sets.{holds, chosen_below}

module _ (xs : List ℕ) (up : IsStrictlyIncreasing xs) where
  -- the entry at a place has that place
  pub place_of_entry : (i : ℕ) → i < length xs → place_in xs (get_or xs i 0) ≡ i
  place_of_entry i l =
      position_or_len_is (λ y. eqb y (get_or xs i 0)) xs i 0 (omega arith)
      (λ k b. ne_eqb (get_or xs k 0) (get_or xs i 0)
      (λ (e : get_or xs k 0 ≡ get_or xs i 0). (let less : get_or xs k 0 < get_or xs i 0 = rising_order xs up k i b l in omega arith)))
      (λ _. eq-eqb (get_or xs i 0) (get_or xs i 0) refl)

  -- a number that the list holds stands at its place
  pub entry_of_place : (x : ℕ) → holds xs x ≡ true → (place_in xs x < length xs) × (get_or xs (place_in xs x) 0 ≡ x)
  entry_of_place x h = grind (arith, place_held, place_of_entry)

  -- a number that the list holds has a place in it
  pub place_below : (x : ℕ) → holds xs x ≡ true → place_in xs x < length xs
  place_below x h = (entry_of_place x h).0

  -- at that place it stands
  pub entry_back : (x : ℕ) → holds xs x ≡ true → get_or xs (place_in xs x) 0 ≡ x
  entry_back x h = (entry_of_place x h).1

  -- different numbers have different places
  pub places_apart : (x y : ℕ) → holds xs x ≡ true → holds xs y ≡ true → place_in xs x ≡ place_in xs y → x ≡ y
  places_apart x y h k e = sym (entry_back x h) ∙ ap (λ i. get_or xs i 0) e ∙ entry_back y k

-- a list holds its entries
pub holds_entry : (xs : List ℕ) (i : ℕ) → i < length xs → holds xs (get_or xs i 0) ≡ true
holds_entry xs i l = list_any_at (λ y. eqb y (get_or xs i 0)) xs i 0 l (eq-eqb (get_or xs i 0) (get_or xs i 0) refl)

-- a rising list of numbers below n has no more than n
pub rising_few : (xs : List ℕ) (n : ℕ) → IsStrictlyIncreasing xs → ((x : ℕ) → holds xs x ≡ true → x < n) → length xs ≤ n
rising_few xs n up low =
    omega (
      arith,
      members_sum (λ x. 1) xs n (All-from_get_or (λ x. x < n) xs 0 (λ i l. low (get_or xs i 0) (holds_entry xs i l))) up,
      sum_by_is_sum_below (λ x. 1) xs 0,
      sum_below_ones (length xs),
      sum_below_ones n,
      sum_below-le (λ x. cond {A = ℕ} (holds xs x) 1 0) (λ x. 1) n (λ x l. cond_small (holds xs x)),
    )

-- a chosen number is below the bound, and passes
pub chosen_holds : (p : ℕ → Bool) (n x : ℕ) → holds (chosen_below p n) x ≡ true → (x < n) × (p x ≡ true)
chosen_holds p n x h =
    let l : x < n = All-holds (λ x. x < n) (chosen_below p n) x (chosen_below_low p n) h in (l, sym (holds-chosen_below p n x l) ∙ h)
