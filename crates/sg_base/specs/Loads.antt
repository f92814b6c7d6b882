-- Weighted sets of numbers: the weight that lies on a number.
use Rattle.std.specs.Prelude.{◌≡◌, ℕ, ◌<◌, Bool, true, cond, List, sum_by}

module _ {L : Type 0} (y : L → ℕ) (has : L → ℕ → Bool) where
  -- the weights of the sets that have k
  abbrev pub load_at : List L → ℕ → ℕ
  load_at sets k = sum_by (λ l. cond (has l k) (y l) 0) sets

  -- the set has a number below m that passes
  abbrev pub HasMarked : (ℕ → Bool) → ℕ → L → Type 0
  HasMarked p m l = (k : ℕ) × (k < m) × (p k ≡ true) × (has l k ≡ true)
