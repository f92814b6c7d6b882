-- The steps of the lattices on a grid of R rows and C columns: where a bond ends, and from where one comes.
use Rattle.std.proofs.Common.{◌≡◌, ℕ, ◌+◌, ◌-◌, ◌%◌, ◌<◌, ◌≤◌, Bool, true, cond, ◌&&◌, leb, arith}
use Rattle.std.proofs.Math.Nat.{mod-eq_of_lt}

-- where `has` says so a bond runs from (r, c) to (er, ec); where `comes` says so one runs from (sr, sc) to (r, c)
pub record IsGridStep (R C : ℕ) (has : ℕ → ℕ → Bool) (er ec : ℕ → ℕ → ℕ) (comes : ℕ → ℕ → Bool)
    (sr sc : ℕ → ℕ → ℕ) : Type 0 where
  pub ends : (r c : ℕ) → r < R → c < C → has r c ≡ true → (er r c < R) × (ec r c < C) × (comes (er r c) (ec r c) ≡ true)
      × (sr (er r c) (ec r c) ≡ r) × (sc (er r c) (ec r c) ≡ c)
  pub moves : (r c : ℕ) → c < C → er r c ≡ r → ec r c ≡ c → ⊥
  pub sources : (r c : ℕ) → r < R → c < C → comes r c ≡ true → (sr r c < R) × (sc r c < C) × (has (sr r c) (sc r c) ≡ true)
      × (er (sr r c) (sc r c) ≡ r) × (ec (sr r c) (sc r c) ≡ c)

-- one column to the east
pub east_step : (R C : ℕ) (has : ℕ → ℕ → Bool) → ((r c : ℕ) → r < R → c < C → has r c ≡ true → c + 1 < C)
    → IsGridStep R C has (λ r c. r) (λ r c. c + 1) (λ r c. leb 1 c && has r (c - 1)) (λ r c. r) (λ r c. c - 1)
east_step R C has within = grind arith

-- one row to the south
pub south_step : (R C : ℕ) (has : ℕ → ℕ → Bool) → ((r c : ℕ) → r < R → c < C → has r c ≡ true → r + 1 < R)
    → IsGridStep R C has (λ r c. r + 1) (λ r c. c) (λ r c. leb 1 r && has (r - 1) c) (λ r c. r - 1) (λ r c. c)
south_step R C has within = grind arith

-- one of each
pub diagonal_step : (R C : ℕ) (has : ℕ → ℕ → Bool) → ((r c : ℕ) → r < R → c < C → has r c ≡ true → (r + 1 < R) × (c + 1 < C))
    → IsGridStep R C has (λ r c. r + 1) (λ r c. c + 1) (λ r c. (leb 1 r && leb 1 c) && has (r - 1) (c - 1)) (λ r c. r - 1) (λ r c. c - 1)
diagonal_step R C has within = grind arith

-- the column before, round the cylinder
abbrev pub column_before : ℕ → ℕ → ℕ
column_before C c = cond (leb 1 c) (c - 1) (C - 1)

round_next : (C c : ℕ) → 2 ≤ C → c < C → ((c + 1) % C < C) × ((c + 1) % C ≡ c → ⊥) × (column_before C ((c + 1) % C) ≡ c)
round_next C c two b = grind (arith, mod-eq_of_lt)

-- one column to the east, from the last to the first
pub round_step : (R C : ℕ) → 2 ≤ C → IsGridStep R C (λ r c. true) (λ r c. r) (λ r c. (c + 1) % C) (λ r c. true) (λ r c. r)
    (λ r c. column_before C c)
round_step R C two = grind (arith, round_next)
