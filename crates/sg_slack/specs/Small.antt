-- Numbers so small that sums of three of them fit an i64, for the tests.
use Rattle.std.specs.Prelude.{ℤ, pos, negsuc, ◌≤ℤ◌}

-- less than a million in size
pub record IsSmall (x : ℤ) : Type 0 where
  pub low : negsuc 1000000 ≤ℤ x
  pub high : x ≤ℤ pos 1000000
