-- The first number below n that fails a test, and the place of the first entry that does.
use Rattle.std.proofs.Common.{◌≡◌, ℕ, ◌<◌, ◌≤◌, All, Bool, true, false, cond, None, Some, List, length, map, get_or, arith, refl, subst, sym}
use Rattle.std.specs.Prelude.{find, not, position}
use Rattle.std.specs.List.{position_or_len, range_with_len}
use Rattle.std.proofs.lemmas.Bool.{le-ltb, lt-ltb, ltb-false, not-false, not_from_false, not_from_true}
use Rattle.std.proofs.lemmas.List.Elements.{All-from_get_or}
use Rattle.std.proofs.lemmas.List.FromFn.{get_or-map-range_with_len, length-map-range_with_len}
use Rattle.std.proofs.lemmas.List.Sums.{fails_before_first, position_or_len_is}
use Rattle.std.proofs.lemmas.Option.{none-some}
use Rattle.sg_draft.proofs.Finds.{find_range-all, find_range-none}

-- where all numbers pass there is none
pub fails-none : (p : ℕ → Bool) (n : ℕ) → ((i : ℕ) → i < n → p i ≡ true) → find (λ i. not (p i)) (range_with_len 0 n) ≡ None
fails-none p n all = find_range-none (λ i. not (p i)) 0 n (λ i l u. not_from_true _ (all i (omega (arith, u))))

-- what holds of all that pass a test holds of those that a function makes, if none of them fails
pub all-made : {X : Type 0} (P : X → Type 0) (passes : X → Bool) → ((x : X) → passes x ≡ true → P x) → (made : ℕ → X) (n : ℕ) (d : X)
    → find (λ k. not (passes (made k))) (range_with_len 0 n) ≡ None → All P (map made (range_with_len 0 n))
all-made P passes holds made n d none = All-from_get_or P (map made (range_with_len 0 n)) d (λ k inside.
    let here : k < n = omega (arith, inside, length-map-range_with_len made 0 n) in
    let good = not-false (passes (made k)) (find_range-all (λ i. not (passes (made i))) 0 n k none (omega arith) (omega (arith, here))) in
    subst P (sym (get_or-map-range_with_len made 0 n k k d here (omega arith))) (holds (made k) good))

is_off : (b : Bool) (n : ℕ) → cond b (Some n) None ≡ None → b ≡ false
is_off true n e = absurd (none-some n (sym e))
is_off false n e = refl

module _ {A : Type 0} (passes : A → Bool) (xs : List A) (d : A) where
  pub place-some : (k : ℕ) → k < length xs → ((i : ℕ) → i < k → passes (get_or xs i d) ≡ true) → passes (get_or xs k d) ≡ false
      → position (λ x. not (passes x)) xs ≡ Some k
  place-some k high earlier bad =
      let here = position_or_len_is (λ x. not (passes x)) xs k d (omega (arith, high)) (λ i low. not_from_true _ (earlier i low))
      (λ less. not_from_false _ bad) in
      rw (here, lt-ltb k (length xs) high) refl

  pub place-none : ((i : ℕ) → i < length xs → passes (get_or xs i d) ≡ true) → position (λ x. not (passes x)) xs ≡ None
  place-none all =
      let here = position_or_len_is (λ x. not (passes x)) xs (length xs) d (omega arith) (λ i low. not_from_true _ (all i low))
      (λ less. absurd (omega (arith, less))) in
      rw (here, le-ltb (length xs) (length xs) (omega arith)) refl

  -- where no entry fails all pass
  pub all-pass : position (λ x. not (passes x)) xs ≡ None → (k : ℕ) → k < length xs → passes (get_or xs k d) ≡ true
  all-pass none k inside =
      let first = position_or_len (λ x. not (passes x)) xs in
      let high : length xs ≤ first = ltb-false first (length xs) (is_off _ first none) in
      not-false _ (fails_before_first (λ x. not (passes x)) xs k d (omega (arith, inside, high)))
