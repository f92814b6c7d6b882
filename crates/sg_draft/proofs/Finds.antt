-- The first number of a range that passes a test.
use Rattle.std.proofs.Common.{◌≡◌, ℕ, zero, suc, ◌+◌, ◌<◌, ◌≤◌, Bool, true, false, Option, Some, None, refl, sym, ap, ◌∙◌, arith, inl, inr, cond}
use Rattle.std.specs.Prelude.{find, option_map}
use Rattle.std.specs.List.{range_with_len}
use Rattle.std.proofs.lemmas.Bool.{cases_eq}
use Rattle.std.proofs.lemmas.Option.{none-some}

-- where no number of the range passes none is found
pub find_range-none : (p : ℕ → Bool) (a n : ℕ) → ((i : ℕ) → a ≤ i → i < a + n → p i ≡ false) → find p (range_with_len a n) ≡ None
find_range-none p a zero h = refl
find_range-none p a (suc n) h = rw (h a (omega arith) (omega arith)) (find_range-none p (a + 1) n (λ i low high. h i (omega arith) (omega arith)))

-- the first number of a range that passes is the one found
pub find_range-some : (p : ℕ → Bool) (a n k : ℕ) → a ≤ k → k < a + n → ((i : ℕ) → a ≤ i → i < k → p i ≡ false) → p k ≡ true
    → find p (range_with_len a n) ≡ Some k
find_range-some p a zero k low high h e = absurd (omega arith)
find_range-some p a (suc n) k low high h e = elim (cases_eq a k) [
  | inl same ↦ rw (← same) (rw (ap p same ∙ e) refl)
  | inr other ↦
      let less : a < k = omega arith in
      rw (h a (omega arith) less) (find_range-some p (a + 1) n k (omega arith) (omega arith) (λ i l u. h i (omega arith) u) e)
]

-- where none is found no number of the range passes
pub find_range-all : (p : ℕ → Bool) (a n k : ℕ) → find p (range_with_len a n) ≡ None → a ≤ k → k < a + n → p k ≡ false
find_range-all p a zero k none low high = absurd (omega arith)
find_range-all p a (suc n) k none low high =
    by (p a) refl none (λ rest other. find_range-all p (a + 1) n k rest (omega arith) (omega arith))
  where
    by : (b : Bool) → p a ≡ b → cond b (Some a) (find p (range_with_len (a + 1) n)) ≡ None
        → (find p (range_with_len (a + 1) n) ≡ None → (k ≡ a → ⊥) → p k ≡ false) → p k ≡ false
    by true e h more = absurd (none-some a (sym h))
    by false e h more = elim (cases_eq k a) [
      | inl same ↦ rw same e
      | inr other ↦ more h other
    ]

-- a value made of nothing is nothing
pub none-mapped : {X Y : Type 0} (f : X → Y) (o : Option X) → option_map f o ≡ None → o ≡ None
none-mapped f None h = refl
none-mapped f (Some x) h = absurd (none-some (f x) (sym h))
