-- A scan that keeps the pair of least slack so far.
use Rattle.std.proofs.Common.{◌≡◌, ℕ, ◌<◌, ◌+◌, List, ℤ, ◌≤ℤ◌, Bool, false, IsTrue, Option, Some, None, ◌⊎◌, inl, inr, refl, arith}
use Rattle.std.proofs.lemmas.Int.{ints}
use Rattle.std.proofs.lemmas.Bool.{cases_Bool, cases_lt}
use Rattle.sg_slack.specs.declared.Pair.{Pair}
use Rattle.sg_slack.specs.Table.{Table}
use Rattle.sg_slack.specs.Slack.{slack_of, IsLeast, Least}
use Rattle.sg_slack.specs.Scan.{IsLesser}

le_trans : (a b c : ℤ) → a ≤ℤ b → b ≤ℤ c → a ≤ℤ c
le_trans a b c h k = omega (arith, ints)

-- below the next number: below this one, or this one
pub below_next : (a n : ℕ) → a < n + 1 → (a < n) ⊎ (a ≡ n)
below_next a n low = grind (arith, ints, cases_lt)

-- a scan of such pairs by a number of each
module _ (t : Table) (totals : List ℤ) (Is : ℕ → ℕ → Type 0) (number : ℕ → ℕ → ℕ) (n : ℕ) where
  abbrev Before : ℕ → ℕ → ℕ → Type 0
  Before k u v = (number u v < k) × Is u v

  abbrev Here : ℕ → ℕ → Type 0
  Here u v = (number u v ≡ n) × Is u v

  wider : (u v : ℕ) → Before n u v → Before (n + 1) u v
  wider u v is = (omega (arith, is.0), is.1)

  keep : (p : Pair) → IsLeast t totals (Before n) p → ((u v : ℕ) → Here u v → p.slack ≤ℤ slack_of t totals u v) → IsLeast t totals (Before (n + 1)) p
  keep p is below = grind (arith, ints, wider, below_next, p.u, p.v, is.one, is.slack, is.least, below)

  take : (p : Pair) → IsLeast t totals Here p → ((u v : ℕ) → Before n u v → p.slack ≤ℤ slack_of t totals u v) → IsLeast t totals (Before (n + 1)) p
  take p is below = grind (arith, ints, below_next, is.one.0, is.one.1, is.slack, below, is.least)

  -- the nearer of the least so far and the least with this number is the least up to the next
  pub Least-more : (best more result : Option Pair) → IsLesser best more result → Least t totals (Before n) best → Least t totals Here more →
      Least t totals (Before (n + 1)) result
  Least-more None None result is none none' = grind (arith, ints, below_next, is, none, none')
  Least-more None (Some q) result is none least = grind (arith, ints, take, is, q, least, none)
  Least-more (Some p) None result is least none = grind (arith, ints, keep, is, p, least, none)
  Least-more (Some p) (Some q) result (inl kept) least least' = grind (arith, ints, keep, le_trans, kept.0, p, least, p.slack, q.slack, kept.1, least'.least)
  Least-more (Some p) (Some q) result (inr taken) least least' = grind (arith, ints, take, le_trans, taken.0, q, least', q.slack, p.slack, taken.1, least.least)

  -- no pair with this number
  pub Least-none : (best : Option Pair) → ((u v : ℕ) → Here u v → ⊥) → Least t totals (Before n) best → Least t totals (Before (n + 1)) best
  Least-none None none least = Least-more None None None refl least none
  Least-none (Some p) none least = Least-more (Some p) None (Some p) refl least none

  -- the one pair with this number, if it counts
  pub Least-if : (u v : ℕ) (counts : Bool) (best result : Option Pair) → (IsTrue counts → Here u v) →
      ((a b : ℕ) → Here a b → (a ≡ u) × (b ≡ v) × IsTrue counts) →
      (IsTrue counts → IsLesser best (Some (record { u = u; v = v; slack = slack_of t totals u v })) result) → (counts ≡ false → result ≡ best) →
      Least t totals (Before n) best → Least t totals (Before (n + 1)) result
  Least-if u v counts best result here only taken left least = grind (arith, ints, cases_Bool, Least-more, Least-none, taken, least, here, only, left)
