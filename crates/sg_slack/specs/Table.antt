-- A square table of costs.
use Rattle.std.specs.Prelude.{◌≡◌, ℕ, ◌+◌, ◌*◌, ◌<◌, List, slice_index_or, ℤ, pos, ◌⊎◌}

-- the number of rows, and the rows one after another
pub record Table : Type 0 where
  pub size : ℕ
  pub entries : List ℤ

-- the entry of row u at place v
abbrev pub cost_of : Table → ℕ → ℕ → ℤ
cost_of t u v = slice_index_or t.entries (u * t.size + v) (pos 0)

-- a pair costs the same in both orders
abbrev pub IsSymmetric : Table → Type 0
IsSymmetric t = (u v : ℕ) → u < t.size → v < t.size → cost_of t u v ≡ cost_of t v u

-- a and b are u and v, in one order or the other
abbrev pub IsPairOf : ℕ → ℕ → ℕ → ℕ → Type 0
IsPairOf a b u v = ((a ≡ u) × (b ≡ v)) ⊎ ((a ≡ v) × (b ≡ u))

-- both entries of the pair have this cost now, and every other entry is as it was
pub record SetsPair (old new : Table) (u v : ℕ) (cost : ℤ) : Type 0 where
  pub size : new.size ≡ old.size
  pub forth : cost_of new u v ≡ cost
  pub back : cost_of new v u ≡ cost
  pub others : (a b : ℕ) → a < old.size → b < old.size → ¬ IsPairOf a b u v →
      cost_of new a b ≡ cost_of old a b
