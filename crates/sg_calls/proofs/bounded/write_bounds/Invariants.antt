use Rattle.std.proofs.Common.{◌≡◌, ◌<◌, ℕ, get_or, length, pos}
use Rattle.sg_bonds.specs.Bounds.{unbounded}
use Rattle.sg_calls.proofs.bounded.write_bounds.Given as goal

-- the bounds so far are written
abbrev pub invariant-loop-k : goal.invariant-loop-k
invariant-loop-k l = record {
  count_low : length l.low ≡ length l.bounds;
  count_high : length l.high ≡ length l.bounds;
  low : (i : ℕ) → i < l.k → get_or l.low i (pos 0) ≡ (get_or l.bounds i unbounded).low;
  high : (i : ℕ) → i < l.k → get_or l.high i (pos 0) ≡ (get_or l.bounds i unbounded).high;
}
