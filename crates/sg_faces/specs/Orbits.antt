-- The orbits of a map of the numbers below a bound into themselves.
use Rattle.std.specs.Prelude.{◌≡◌, ℕ, zero, suc, ◌<◌, Bool, nat_le, count_by}
use Rattle.std.specs.List.{list_all, range_with_len}

-- where j steps of the map lead from d
abbrev pub after_steps : (ℕ → ℕ) → ℕ → ℕ → ℕ
after_steps f zero d = d
after_steps f (suc j) d = f (after_steps f j d)

-- some number of steps leads from d to e
abbrev pub SameOrbit : (ℕ → ℕ) → ℕ → ℕ → Type 0
SameOrbit f d e = (j : ℕ) × (after_steps f j d ≡ e)

-- whether no number that fewer than k steps lead to is less than d
abbrev pub is_least_of_orbit : (ℕ → ℕ) → ℕ → ℕ → Bool
is_least_of_orbit f k d = list_all (λ j. nat_le d (after_steps f j d)) (range_with_len 0 k)

-- how many numbers before d are the least of their orbits
abbrev pub orbits_before : (ℕ → ℕ) → ℕ → ℕ → ℕ
orbits_before f k d = count_by (is_least_of_orbit f k) (range_with_len 0 d)

-- different numbers below k go to different numbers below k
pub record IsOneToOne (f : ℕ → ℕ) (k : ℕ) : Type 0 where
  pub below : (d : ℕ) → d < k → f d < k
  pub apart : (d e : ℕ) → d < k → e < k → f d ≡ f e → d ≡ e
