-- Lists of numbers that may hold only some numbers, and each of them once.
use Rattle.std.specs.Prelude.{◌≡◌, ℕ, ◌<◌, ◌||◌, Bool, true, false, not, List, length, take, slice_index}
use Rattle.sg_base.specs.Sets.{holds}

-- whether the entry at place j is not an allowed number, or repeats an earlier one
abbrev pub is_misplaced : (ℕ → Bool) → List ℕ → ℕ → Bool
is_misplaced allowed xs j = not (allowed (slice_index xs j)) || holds (take j xs) (slice_index xs j)

-- no entry is misplaced
abbrev pub IsInPlace : (ℕ → Bool) → List ℕ → Type 0
IsInPlace allowed xs = (j : ℕ) → j < length xs → is_misplaced allowed xs j ≡ false

-- x is the first entry that is misplaced
pub record IsFirstMisplaced (allowed : ℕ → Bool) (xs : List ℕ) (x : ℕ) : Type 0 where
  pub place : ℕ
  pub inside : place < length xs
  pub entry : slice_index xs place ≡ x
  pub misplaced : is_misplaced allowed xs place ≡ true
  pub before : (j : ℕ) → j < place → is_misplaced allowed xs j ≡ false
